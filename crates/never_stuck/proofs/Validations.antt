-- A validation that only one worker continues: it ends, or it takes its call back.
use Rattle.std.proofs.Common.{◌≡◌, ◌<◌, ◌≤◌, ◌+◌, ◌-◌, ◌&&◌, ℕ, zero, suc, Bool, true, false, List, length, Some, Ok, arith, refl, sym, ap, ◌∙◌, inl, inr, true≢false}
use Rattle.std.proofs.lemmas.Bool.{cases_Bool, cond-true, cond-false}
use Rattle.std.proofs.lemmas.List.{get_or-set_same}
use Rattle.rv_ledger.specs.declared.outcome.Counts.{Counts}
use Rattle.stm_state.specs.declared.state.Status.TheVariants.{Executed, Aborting}
use Rattle.stm_state.specs.declared.state.CallState.{CallState}
use Rattle.stm_state.specs.declared.state.Task.{Task}
use Rattle.stm_state.specs.declared.state.Task.TheVariants.{Idle, Validating, Marking}
use Rattle.stm_state.specs.State.{State, fresh, call_at, task_at, with_call, with_task}
use Rattle.stm_state.specs.Steps.{counted, one_step, one_validation, after_check_read, after_decide, is_executed_at, keys_of, next_stands, recorded_reads, written_by}
use Rattle.stm_state.proofs.Invariant.{IsChecked}
use Rattle.stm_state.proofs.Checks.{executed_at_says}
use Rattle.stm_state.proofs.Rounds.{each_stands}
use Rattle.never_stuck.proofs.UnstuckGoals.{Setting}
use Rattle.never_stuck.proofs.OwedLists.{Comes, comes_here, comes_more, comes_so}
use Rattle.never_stuck.proofs.Kept.{OnlyTask, OnlyCall, task_call, task_on, call_on, new_task, new_call}
use Rattle.never_stuck.proofs.RunReads.{AllStand}
use Rattle.never_stuck.proofs.Sizes.{reads_short, written_few}
use Rattle.never_stuck.proofs.OwedSteps.{IsSound, worker_there, named_there, due_at, steps_on}

-- a call that is taken back
abbrev pub taken_back : CallState → CallState
taken_back call = record call { status = Aborting }

-- a validation of call i has ended, or the call is taken back, but not if all its reads stand and no check had failed
pub data ValidationOutcome (w i : ℕ) (failed : Bool) (s t : State) : Type 0 where
  passes : OnlyTask w s t → task_at t w ≡ Idle → ValidationOutcome w i failed s t
  takes_back : (keys : List (List ℕ)) → OnlyCall w i s t → task_at t w ≡ Marking i keys → length keys ≤ 256 → call_at t i ≡ taken_back (call_at s i) → (failed ≡ false → AllStand s.versions i (recorded_reads (call_at s i).last) → ⊥) → ValidationOutcome w i failed s t

-- ---- the results of the steps

module _ (w i n : ℕ) (s : State) where
  decided_failed : is_executed_at n (call_at s i) ≡ true → after_decide w i n true s ≡ with_task w (Marking i (keys_of (written_by (call_at s i).last))) (with_call i (taken_back (call_at s i)) s)
  unfolding after_decide
  decided_failed is = cond-true (is_executed_at n (call_at s i)) _ _ is

  decided_over : (failed : Bool) → (failed && is_executed_at n (call_at s i)) ≡ false → after_decide w i n failed s ≡ with_task w Idle s
  unfolding after_decide
  decided_over failed over = cond-false (failed && is_executed_at n (call_at s i)) _ _ over

  checked_over : (left : ℕ) → is_executed_at n (call_at s i) ≡ false → after_check_read w i n left s ≡ with_task w Idle s
  unfolding after_check_read
  checked_over left over = cond-false (is_executed_at n (call_at s i)) _ _ over

  checked_good : (left : ℕ) → is_executed_at n (call_at s i) ≡ true → next_stands i (suc left) s ≡ true → after_check_read w i n left s ≡ with_task w (Validating i n left false) s
  unfolding after_check_read
  checked_good left is stand = cond-true (is_executed_at n (call_at s i)) _ _ is ∙ cond-true (next_stands i (suc left) s) _ _ stand

  checked_bad : (left : ℕ) → is_executed_at n (call_at s i) ≡ true → next_stands i (suc left) s ≡ false → after_check_read w i n left s ≡ with_task w (Validating i n (suc left) true) s
  unfolding after_check_read
  checked_bad left is bad = cond-true (is_executed_at n (call_at s i)) _ _ is ∙ cond-false (next_stands i (suc left) s) _ _ bad

-- the same from the state before a step to another task
after_task : (w i : ℕ) (failed was : Bool) (s u t : State) → OnlyTask w s u → call_at u i ≡ call_at s i → (was ≡ false → AllStand s.versions i (recorded_reads (call_at s i).last) → (failed ≡ false) × AllStand u.versions i (recorded_reads (call_at u i).last)) → ValidationOutcome w i failed u t → ValidationOutcome w i was s t
after_task w i failed was s u t first same stale (passes only at) = passes (task_on w s u t first only) at
after_task w i failed was s u t first same stale (takes_back keys only at few taken fresh_fails) =
    takes_back keys (call_on w i s u t (task_call w i s u first) only) at few (taken ∙ ap taken_back same) (λ is stand. let now = stale is stand in fresh_fails now.0 now.1)

-- ---- a validation

module _ (setting : Setting) (w i n : ℕ) (w_in : w < setting.workers) where
  -- the state after the task is over
  over_to : (add : Counts → Counts) (failed : Bool) (s : State) → IsSound setting s → ValidationOutcome w i failed s (counted add w (with_task w Idle s))
  over_to add failed s h = passes (new_task w add Idle s) (get_or-set_same s.tasks w Idle Idle (worker_there setting s h w w_in))

  -- the call is not EXECUTED at the incarnation
  over_at : (left : ℕ) (failed : Bool) (s : State) → IsSound setting s → task_at s w ≡ Validating i n left failed → is_executed_at n (call_at s i) ≡ false → Comes setting (ValidationOutcome w i failed s) 1 0 s
  over_at left true s h at over =
      steps_on setting w w_in s h 0 (counted one_validation w (with_task w Idle s))
      (due_at setting w s (Validating i n left true) at ∙ ap (λ u. Some (Ok (counted one_validation w u))) (decided_over w i n s true over)) refl (omega arith)
      (λ _. comes_here (over_to one_validation true s h))
  over_at zero false s h at over =
      steps_on setting w w_in s h 0 (counted one_validation w (with_task w Idle s))
      (due_at setting w s (Validating i n zero false) at ∙ ap (λ u. Some (Ok (counted one_validation w u))) (decided_over w i n s false refl)) refl (omega arith)
      (λ _. comes_here (over_to one_validation false s h))
  over_at (suc left) false s h at over =
      steps_on setting w w_in s h 0 (counted one_step w (with_task w Idle s))
      (due_at setting w s (Validating i n (suc left) false) at ∙ ap (λ u. Some (Ok (counted one_step w u))) (checked_over w i n s left over)) refl (omega arith)
      (λ _. comes_here (over_to one_step false s h))

  -- a check failed
  fails : (left : ℕ) (s : State) → IsSound setting s → task_at s w ≡ Validating i n left true → is_executed_at n (call_at s i) ≡ true → Comes setting (ValidationOutcome w i true s) 1 0 s
  fails left s h at is =
      let keys = keys_of (written_by (call_at s i).last) in
      let call = taken_back (call_at s i) in
      steps_on setting w w_in s h 0 (counted one_validation w (with_task w (Marking i keys) (with_call i call s)))
      (due_at setting w s (Validating i n left true) at ∙ ap (λ u. Some (Ok (counted one_validation w u))) (decided_failed w i n s is)) refl (omega arith)
      (λ _. comes_here (takes_back keys (new_call w i one_validation (Marking i keys) call s)
      (get_or-set_same s.tasks w (Marking i keys) Idle (worker_there setting s h w w_in))
      (written_few setting s h.inv.facts i)
      (get_or-set_same s.calls i call fresh (named_there setting s h w w_in (Validating i n left true) i at refl)) (λ e. cc)))

  -- no check failed so far
  checks : (left : ℕ) (s : State) → IsSound setting s → task_at s w ≡ Validating i n left false → is_executed_at n (call_at s i) ≡ true → Comes setting (ValidationOutcome w i false s) (left + 1) 0 s
  checks zero s h at is =
      steps_on setting w w_in s h 0 (counted one_validation w (with_task w Idle s))
      (due_at setting w s (Validating i n zero false) at ∙ ap (λ u. Some (Ok (counted one_validation w u))) (decided_over w i n s false refl)) refl (omega arith)
      (λ _. comes_here (over_to one_validation false s h))
  checks (suc left) s h at is = elim (cases_Bool (next_stands i (suc left) s)) [
    | inl good ↦
        let task : Task = Validating i n left false in
        let u : State = counted one_step w (with_task w task s) in
        steps_on setting w w_in s h (left + 1) u
        (due_at setting w s (Validating i n (suc left) false) at ∙ ap (λ x. Some (Ok (counted one_step w x))) (checked_good w i n s left is good)) refl (omega arith)
        (λ k. comes_so (λ t. after_task w i false false s u t (new_task w one_step task s) refl (λ e stand. (refl, stand)))
        (checks left u k (get_or-set_same s.tasks w task Idle (worker_there setting s h w w_in)) is))
    | inr bad ↦
        let task : Task = Validating i n (suc left) true in
        let u : State = counted one_step w (with_task w task s) in
        let fails_by : AllStand s.versions i (recorded_reads (call_at s i).last) → ⊥ = λ stand. let good = each_stands s.versions i (recorded_reads (call_at s i).last) (length (recorded_reads (call_at s i).last) - suc left) stand in true≢false (sym good ∙ bad) in
        steps_on setting w w_in s h 1 u
        (due_at setting w s (Validating i n (suc left) false) at ∙ ap (λ x. Some (Ok (counted one_step w x))) (checked_bad w i n s left is bad)) refl (omega arith)
        (λ k. comes_so (λ t. after_task w i true false s u t (new_task w one_step task s) refl (λ e stand. absurd (fails_by stand)))
        (fails (suc left) u k (get_or-set_same s.tasks w task Idle (worker_there setting s h w w_in)) is))
  ]

  executed_ends : (left : ℕ) (failed : Bool) (s : State) → IsSound setting s → task_at s w ≡ Validating i n left failed → is_executed_at n (call_at s i) ≡ true → Comes setting (ValidationOutcome w i failed s) (left + 1) 0 s
  executed_ends left true s h at is = comes_more (omega arith) (omega arith) (fails left s h at is)
  executed_ends left false s h at is = checks left s h at is

  -- an EXECUTED call has at least as many reads as a validation has left
  few_left : (left : ℕ) (call : CallState) → call.status ≡ Executed → IsChecked call left → left ≤ length (recorded_reads call.last)
  few_left left call done (inl checked_is) = checked_is.1
  few_left left call done (inr marked_is) = let other = marked_is.0 in cc

  -- a validation ends or takes its call back within two steps more than the call may read
  pub validation_ends : (left : ℕ) (failed : Bool) (s : State) → IsSound setting s → task_at s w ≡ Validating i n left failed → Comes setting (ValidationOutcome w i failed s) (setting.reads + 2) 0 s
  validation_ends left failed s h at = elim (cases_Bool (is_executed_at n (call_at s i))) [
    | inl is ↦
        let now = executed_at_says n (call_at s i) is in
        let few = few_left left (call_at s i) now.0 (h.inv.facts.current w i left failed (at ∙ ap (λ x. Validating i x left failed) (sym now.1))) in
        let short = reads_short setting s h.inv.facts i in
        comes_more (omega (arith, few, short)) (omega arith) (executed_ends left failed s h at is)
    | inr over ↦ comes_more (omega arith) (omega arith) (over_at left failed s h at over)
  ]
