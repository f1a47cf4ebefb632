-- What each step does, by its tests.
use Rattle.std.proofs.Common.{◌≡◌, ◌+◌, nat_lt, min, suc, ℕ, Bool, true, false, List, [], length, map, Some, None, refl, sym, subst, ap, ◌∙◌, add-one}
use Rattle.std.specs.FinMap.{len}
use Rattle.read_set.specs.declared.Read.{Read}
use Rattle.rv_step.specs.declared.answer.StorageAnswer.{StorageAnswer}
use Rattle.stm_state.specs.declared.state.Status.TheVariants.{Executing, Aborting}
use Rattle.stm_state.specs.declared.state.Recorded.{Recorded}
use Rattle.stm_state.specs.declared.state.Task.{Task}
use Rattle.stm_state.specs.declared.state.Task.TheVariants.{Idle, Running, Moving, Validating, Marking}
use Rattle.stm_state.specs.State.{State, call_at, with_call, with_task, is_executed, is_ready, is_done}
use Rattle.stm_state.specs.Steps.{after_finish_abort, after_ask, ask_execution, ask_validation, after_check_read, after_decide, has_new_key, is_executed_at, keys_of, keys_to_move, least_parked_call, next_stands, after_park, next_incarnation, read_of, after_record, recorded_run, resume_if_parked, recorded_reads, to_validate, count_done, resume_dependents, written_by}

module _ (w : ℕ) (s : State) where
  -- ask
  pub asked_done : is_done s ≡ true → count_done w s ≡ after_ask w s
  asked_done e = rw e refl

  pub asked_validation : is_done s ≡ false → nat_lt s.validation s.execution ≡ true → ask_validation w s ≡ after_ask w s
  asked_validation e f = rw (e, f) refl

  pub asked_execution : is_done s ≡ false → nat_lt s.validation s.execution ≡ false → nat_lt s.execution (length s.calls) ≡ true → ask_execution w s ≡ after_ask w s
  asked_execution e f g = rw (e, f, g) refl

  pub asked_nothing : is_done s ≡ false → nat_lt s.validation s.execution ≡ false → nat_lt s.execution (length s.calls) ≡ false → s ≡ after_ask w s
  asked_nothing e f g = rw (e, f, g) refl

  validated_at : is_executed (call_at s s.validation).status ≡ true → with_task w (Validating s.validation (call_at s s.validation).incarnation (length (recorded_reads (call_at s s.validation).last)) false) (record s { validation = s.validation + 1 }) ≡ ask_validation w s
  unfolding ask_validation
  validated_at e = rw e refl

  pub validated : (i : ℕ) → i ≡ s.validation → is_executed (call_at s i).status ≡ true → with_task w (Validating i (call_at s i).incarnation (length (recorded_reads (call_at s i).last)) false) (record s { validation = s.validation + 1 }) ≡ ask_validation w s
  validated i e test =
      ap (λ (j : ℕ). with_task w (Validating j (call_at s j).incarnation (length (recorded_reads (call_at s j).last)) false) (record s { validation = s.validation + 1 })) e
      ∙ validated_at (ap (λ (j : ℕ). is_executed (call_at s j).status) (sym e) ∙ test)

  run_at : is_ready (call_at s s.execution).status ≡ true → with_task w (Running s.execution [] None) (with_call s.execution (record (call_at s s.execution) { status = Executing }) (record s { execution = s.execution + 1 })) ≡ ask_execution w s
  unfolding ask_execution
  run_at e = rw e refl

  pub run : (i : ℕ) → i ≡ s.execution → is_ready (call_at s i).status ≡ true → with_task w (Running i [] None) (with_call i (record (call_at s i) { status = Executing }) (record s { execution = s.execution + 1 })) ≡ ask_execution w s
  run i e test =
      ap (λ (j : ℕ). with_task w (Running j [] None) (with_call j (record (call_at s j) { status = Executing }) (record s { execution = s.execution + 1 }))) e
      ∙ run_at (ap (λ (j : ℕ). is_ready (call_at s j).status) (sym e) ∙ test)

  -- park
  pub parked_again : (i b : ℕ) → is_executed (call_at s b).status ≡ true → with_task w (Running i [] None) s ≡ after_park w i b s
  unfolding after_park
  parked_again i b e = rw e refl

  pub parked_there : (i b : ℕ) → is_executed (call_at s b).status ≡ false → with_task w Idle (with_call i (record (call_at s i) { status = Aborting; parked = Some b }) s) ≡ after_park w i b s
  unfolding after_park
  parked_there i b e = rw e refl

  -- record
  pub recorded_is : (i : ℕ) (run : Recorded) (keys : List (List ℕ)) (new : Bool) (answers : List StorageAnswer) → run.reads ≡ map read_of answers → keys ≡ keys_to_move (call_at s i).last run.receipt.writes → new ≡ has_new_key (call_at s i).last run.receipt.writes
      → with_task w (Moving i keys new) (with_call i (record (call_at s i) { last = Some run }) (record s { record_count = s.record_count + len run.receipt.writes })) ≡ after_record w i answers run.receipt s
  recorded_is i run keys new answers e f g =
      let kept : State = with_call i (record (call_at s i) { last = Some (recorded_run answers run.receipt) }) (record s { record_count = s.record_count + len run.receipt.writes }) in
      ap (λ (reads : List Read). with_task w (Moving i keys new) (with_call i (record (call_at s i) { last = Some (record { receipt = run.receipt; reads = reads }) }) (record s { record_count = s.record_count + len run.receipt.writes }))) e
      ∙ ap (λ (ks : List (List ℕ)). with_task w (Moving i ks new) kept) f
      ∙ ap (λ (b : Bool). with_task w (Moving i (keys_to_move (call_at s i).last run.receipt.writes) b) kept) g

  -- finish execution
  pub nothing_again : (i : ℕ) (new : Bool) (task : Task) → nat_lt i s.validation ≡ false → with_task w Idle s ≡ to_validate w i new task s
  unfolding to_validate
  nothing_again i new task e = rw e refl

  pub all_again : (i : ℕ) (new : Bool) (task : Task) → nat_lt i s.validation ≡ true → new ≡ true → with_task w Idle (record s { validation = i }) ≡ to_validate w i new task s
  unfolding to_validate
  all_again i new task e f = rw (e, f) refl

  pub one_again : (i : ℕ) (new : Bool) (task : Task) → nat_lt i s.validation ≡ true → new ≡ false → with_task w task s ≡ to_validate w i new task s
  unfolding to_validate
  one_again i new task e f = rw (e, f) refl

  -- check read
  pub check_ended : (i n left : ℕ) → is_executed_at n (call_at s i) ≡ false → with_task w Idle s ≡ after_check_read w i n left s
  unfolding after_check_read
  check_ended i n left e = rw e refl

  pub check_stood : (i n left : ℕ) → is_executed_at n (call_at s i) ≡ true → next_stands i (left + 1) s ≡ true → with_task w (Validating i n left false) s ≡ after_check_read w i n left s
  unfolding after_check_read
  check_stood i n left e f =
      let stands : next_stands i (suc left) s ≡ true = subst (λ (m : ℕ). next_stands i m s ≡ true) (add-one left) f in
      rw (e, stands) refl

  pub check_failed : (i n left : ℕ) → is_executed_at n (call_at s i) ≡ true → next_stands i (left + 1) s ≡ false → with_task w (Validating i n (left + 1) true) s ≡ after_check_read w i n left s
  unfolding after_check_read
  check_failed i n left e f =
      let stands : next_stands i (suc left) s ≡ false = subst (λ (m : ℕ). next_stands i m s ≡ false) (add-one left) f in
      rw (add-one left, e, stands) refl

  -- decide
  pub decided_abort : (i n : ℕ) (failed : Bool) → failed ≡ true → is_executed_at n (call_at s i) ≡ true
      → with_task w (Marking i (keys_of (written_by (call_at s i).last))) (with_call i (record (call_at s i) { status = Aborting }) s) ≡ after_decide w i n failed s
  unfolding after_decide
  decided_abort i n failed e f = rw (e, f) refl

  pub decided_none : (i n : ℕ) (failed : Bool) → failed ≡ false → with_task w Idle s ≡ after_decide w i n failed s
  unfolding after_decide
  decided_none i n failed e = rw e refl

  pub decided_late : (i n : ℕ) (failed : Bool) → failed ≡ true → is_executed_at n (call_at s i) ≡ false → with_task w Idle s ≡ after_decide w i n failed s
  unfolding after_decide
  decided_late i n failed e f = rw (e, f) refl

  -- finish abort
  pub abort_runs : (i : ℕ) → nat_lt i s.execution ≡ true → with_task w (Running i [] None) (with_call i (record (next_incarnation (call_at s i)) { status = Executing }) (record s { validation = min s.validation (i + 1) })) ≡ after_finish_abort w i s
  unfolding after_finish_abort
  abort_runs i e = rw e refl

  pub abort_rests : (i : ℕ) → nat_lt i s.execution ≡ false → with_task w Idle (with_call i (next_incarnation (call_at s i)) (record s { validation = min s.validation (i + 1) })) ≡ after_finish_abort w i s
  unfolding after_finish_abort
  abort_rests i e = rw e refl

-- those that were parked are readied
pub woken_is : (i : ℕ) (s : State) → record s { calls = map (resume_if_parked i) s.calls; execution = least_parked_call i s.execution 0 s.calls } ≡ resume_dependents i s
unfolding resume_dependents
woken_is i s = refl
