-- What is counted for a worker and what its step does go in any order.
use Rattle.std.proofs.Common.{◌≡◌, nat_lt, ℕ, Bool, true, false, cond, length, map, refl, sym, ap, ◌∙◌}
use Rattle.std.proofs.lemmas.List.{set-set}
use Rattle.rv_ledger.specs.declared.outcome.Counts.{Counts}
use Rattle.stm_state.specs.declared.state.Status.TheVariants.{Executed}
use Rattle.stm_state.specs.declared.state.Task.{Task}
use Rattle.stm_state.specs.declared.state.Task.TheVariants.{Idle, Validating}
use Rattle.stm_state.specs.State.{State, call_at, with_call, with_task, is_executed, is_ready, is_done}
use Rattle.stm_state.specs.Steps.{counted, one_step, ask_validation, ask_execution, after_finish_execution, recorded_reads, least_parked_call, resume_if_parked, to_validate, resume_dependents}
use Rattle.scheduler.proofs.Cases.{woken_is}

module _ (add : Counts → Counts) (w : ℕ) where
  over_cond : (b : Bool) (x y : State) → counted add w (cond b x y) ≡ cond b (counted add w x) (counted add w y)
  over_cond true x y = refl
  over_cond false x y = refl

  over_two : (b b2 : Bool) (x y z : State) → counted add w (cond b (cond b2 x y) z) ≡ cond b (cond b2 (counted add w x) (counted add w y)) (counted add w z)
  over_two true true x y z = refl
  over_two true false x y z = refl
  over_two false b2 x y z = refl

  -- asking
  pub done_counted : (s : State) → is_done (counted add w s) ≡ is_done s
  unfolding is_done
  done_counted s = refl

  pub counted_validation : (s : State) → ask_validation w (counted add w s) ≡ counted add w (ask_validation w s)
  unfolding ask_validation
  counted_validation s = sym (over_cond (is_executed (call_at s s.validation).status) _ _)

  pub counted_execution : (s : State) → ask_execution w (counted add w s) ≡ counted add w (ask_execution w s)
  unfolding ask_execution
  counted_execution s = sym (over_cond (is_ready (call_at s s.execution).status) _ _)

  -- the end of a run
  counted_again : (i : ℕ) (new : Bool) (task : Task) (s : State) → to_validate w i new task (counted add w s) ≡ counted add w (to_validate w i new task s)
  unfolding to_validate
  counted_again i new task s = sym (over_two (nat_lt i s.validation) new _ _ _)

  counted_waking : (i : ℕ) (s : State) → resume_dependents i (counted add w s) ≡ counted add w (resume_dependents i s)
  unfolding resume_dependents
  counted_waking i s = refl

  -- a state after a call became EXECUTED
  abbrev executed_in : ℕ → State → State
  executed_in i s = with_call i (record (call_at s i) { status = Executed }) s

  counted_finish : (i : ℕ) (new : Bool) (task : Task) (s : State) → task ≡ Validating i (call_at s i).incarnation (length (recorded_reads (call_at s i).last)) false →
      to_validate w i new task (resume_dependents i (with_call i (record (call_at s i) { status = Executed }) (counted add w s))) ≡ counted add w (after_finish_execution w i new s)
  counted_finish i new task s e =
      ap (to_validate w i new task) (counted_waking i (executed_in i s))
      ∙ counted_again i new task (resume_dependents i (executed_in i s))
      ∙ ap (λ (t : Task). counted add w (to_validate w i new t (resume_dependents i (executed_in i s)))) e

-- the task that the worker had before changes nothing about what it gets
again_over : (w i : ℕ) (new : Bool) (task before : Task) (s : State) → to_validate w i new task (with_task w before s) ≡ to_validate w i new task s
unfolding to_validate
again_over w i new task before s = rw (set-set s.tasks w before Idle, set-set s.tasks w before task) refl

finish_over : (w i : ℕ) (new : Bool) (task before : Task) (s : State) → to_validate w i new task (resume_dependents i (with_task w before s)) ≡ to_validate w i new task (resume_dependents i s)
unfolding resume_dependents
finish_over w i new task before s = again_over w i new task before (record s { calls = map (resume_if_parked i) s.calls; execution = least_parked_call i s.execution 0 s.calls })

-- the end of an execution: the worker has no task, those that are parked are readied, and what is validated is settled
pub all_finished : (w i : ℕ) (new : Bool) (task : Task) (before ended resumed : State)
    → ended ≡ with_task w Idle (with_call i (record (call_at before i) { status = Executed }) (counted one_step w before))
    → resumed ≡ record ended { calls = map (resume_if_parked i) ended.calls; execution = least_parked_call i ended.execution 0 ended.calls }
    → task ≡ Validating i (call_at before i).incarnation (length (recorded_reads (call_at before i).last)) false → to_validate w i new task resumed ≡ counted one_step w (after_finish_execution w i new before)
all_finished w i new task before ended resumed e f g =
    let last : State = with_call i (record (call_at before i) { status = Executed }) (counted one_step w before) in
    ap (to_validate w i new task) (f ∙ woken_is i ended ∙ ap (resume_dependents i) e)
    ∙ finish_over w i new task Idle last
    ∙ counted_finish one_step w i new task before g
