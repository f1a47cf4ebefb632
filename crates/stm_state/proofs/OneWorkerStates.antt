-- What one worker did in each state that it reaches, for all keys that its runs read.
use Rattle.std.proofs.Common.{◌≡◌, ◌+◌, ◌*◌, nat_lt, nat_le, ℕ, zero, suc, Bool, false, List, [], ◌∷◌, ◌++◌, Option, None, Some, Result, Ok, arith, sym, ap, subst, ◌∙◌, inl, inr}
use Rattle.std.specs.FinMap.{len}
use Rattle.std.proofs.lemmas.Bool.{cases_lt, cond_both}
use Rattle.rv_ledger.specs.declared.outcome.Counts.{Counts}
use Rattle.rv_ledger.specs.declared.receipt.Receipt.{Receipt}
use Rattle.rv_step.specs.Replies.{replies_of}
use Rattle.rv_step.specs.declared.answer.StorageAnswer.{StorageAnswer}
use Rattle.mvmap.specs.Reading.{reading}
use Rattle.stm_state.specs.declared.state.Recorded.{Recorded}
use Rattle.stm_state.specs.declared.state.Task.{Task}
use Rattle.stm_state.specs.declared.state.Task.TheVariants.{Idle, Running, Moving, Validating}
use Rattle.stm_state.specs.Limits.{record_limit, incarnation_limit}
use Rattle.stm_state.specs.State.{State, call_at, task_at, with_task}
use Rattle.stm_state.specs.Steps.{Block, Step, Ask, ReadKey, Record, MoveKey, FinishExecution, CheckRead, Decide, Limit, ArenaFull, IncarnationLimit, counted, one_step, one_asking, one_execution, one_validation, count_done, record_within, step_with, worker_step}
use Rattle.stm_state.proofs.Invariant.{Invariant}
use Rattle.stm_state.specs.Done.{Reached, started, stepped}
use Rattle.stm_state.specs.OneWorker.{OneWorkerDid, OneWorkerCountsWhereReached}
use Rattle.stm_state.proofs.StepsByTask.{same_state, none_ok, err_ok}
use Rattle.stm_state.proofs.InvariantKept.{worker_kept, invariant_kept}
use Rattle.stm_state.proofs.Serials.{IsOver, over_at_done}
use Rattle.stm_state.proofs.Rounds.{answered_here, clear_below, to_run, run_asked, recorded_state, after_move, finished, executed_is, to_check, check_asked, check_stands, none_taken}
use Rattle.stm_state.proofs.OneWorkerPhases.{Comes, Rests, Runs, Moves, Waits, Checks, within_block, first, begins, told_asked, told_so, did_all, reads_on, records_on, moves_on, finishes_on, waits_on, checks_on, decides_on}

module _ (block : Block) where
  -- the phases of the worker
  data Phase (s : State) : Type 0 where
    rests : {d steps told : ℕ} → Rests block d steps told s → Phase s
    runs : {d steps told : ℕ} {answers : List StorageAnswer} → Runs block d steps told answers s → Phase s
    moves : {d steps told : ℕ} {run : Recorded} {keys : List (List ℕ)} {new : Bool} → Moves block d steps told run keys new s → Phase s
    waits : {d steps told : ℕ} → Waits block d steps told s → Phase s
    checks : {d steps told left : ℕ} → Checks block d steps told left s → Phase s

  -- ---- a step

  module _ (s t : State) (inv : Invariant block 1 t) where
    -- the step leads to this state
    comes : (add : Counts → Counts) (u : State) → ◌≡◌ {A = Option (Result State Limit)} (Some (Ok (counted add 0 u))) (Some (Ok t)) → Comes block Phase add u → Phase t
    comes add u k h = subst (λ x. Invariant block 1 x → Phase x) (same_state (counted add 0 u) t k) h inv

    -- the same, with an equal state
    comes_to : (add : Counts → Counts) (u : State) {v : State} → v ≡ u → ◌≡◌ {A = Option (Result State Limit)} (Some (Ok (counted add 0 v))) (Some (Ok t)) → Comes block Phase add u → Phase t
    comes_to add u same k h = comes add u (ap (λ x. Some (Ok (counted add 0 x))) (sym same) ∙ k) h

    -- by the task that the worker has
    by_task : (step : Step) {task : Task} → task_at s 0 ≡ task → worker_step block 0 step s ≡ Some (Ok t) → step_with block 0 task step s ≡ Some (Ok t)
    by_task step at k = ap (λ task. step_with block 0 task step s) (sym at) ∙ k

    module _ {d steps told : ℕ} where
      -- the calls below d are finished
      rests_on : (step : Step) → Rests block d steps told s → step_with block 0 Idle step s ≡ Some (Ok t) → Phase t
      rests_on Ask h k = elim (cases_lt d block.count) [
        | inl low ↦ comes_to one_asking (to_run block s) (run_asked block s d h.now low) k (λ i. runs (begins h low i))
        | inr high ↦ comes_to one_asking (count_done 0 s) (told_asked h high) k (λ i. rests (told_so h high i))
      ]
      rests_on step h k = absurd (none_ok t k)

      -- the record of call d's run
      hands_in : (answers : List StorageAnswer) → Runs block d steps told answers s → (o : Option Receipt) → record_within d answers 0 o s ≡ Some (Ok t) → Phase t
      hands_in answers h None k = absurd (none_ok t k)
      hands_in answers h (Some receipt) k =
          cond_both (nat_lt record_limit (s.record_count + len receipt.writes)) _ _ (λ o. o ≡ Some (Ok t) → Phase t)
          (λ _ full. absurd (err_ok ArenaFull t full))
          (λ _. cond_both (nat_le incarnation_limit (call_at s d).incarnation) _ _ (λ o. o ≡ Some (Ok t) → Phase t)
          (λ _ spent. absurd (err_ok IncarnationLimit t spent))
          (λ _ ok. let within = within_block h.now in comes one_execution (recorded_state block s d answers receipt h.now within) ok (λ i. moves (records_on receipt h within i)))) k

      runs_on : (answers : List StorageAnswer) (step : Step) → Runs block d steps told answers s → step_with block 0 (Running d answers None) step s ≡ Some (Ok t) → Phase t
      runs_on answers (ReadKey key) h k =
          let a = answered_here block.base key d answers (reading s.versions key d) (clear_below block s h.now.inv.facts d h.now.calls.below key) in
          comes_to one_step (with_task 0 (Running d (answers ++ a.answer ∷ []) None) s) (ap (λ (task : Task). with_task 0 task s) a.task) k (λ i. runs (reads_on key h a i))
      runs_on answers Record h k = hands_in answers h (block.borne_out d (replies_of answers)) k
      runs_on answers step h k = absurd (none_ok t k)

      -- the keys of its run are moved
      moves_next : (run : Recorded) (keys : List (List ℕ)) (new : Bool) (step : Step) → Moves block d steps told run keys new s → step_with block 0 (Moving d keys new) step s ≡ Some (Ok t) → Phase t
      moves_next run (key ∷ keys) new MoveKey h k = comes one_step (after_move block s d run key keys new h.now) k (λ i. moves (moves_on h i))
      moves_next run [] new FinishExecution h k =
          let within = within_block h.now in
          comes_to one_step (with_task 0 Idle (finished block s d run new h.now within)) (executed_is block s d run new h.now within) k (λ i. waits (finishes_on h within i))
      moves_next run keys new step h k = absurd (none_ok t k)

      -- call d is EXECUTED
      waits_next : (step : Step) → Waits block d steps told s → step_with block 0 Idle step s ≡ Some (Ok t) → Phase t
      waits_next Ask h k = let within = within_block h.now in comes_to one_asking (to_check block s) (check_asked block s d h.now within) k (λ i. checks (waits_on h within i))
      waits_next step h k = absurd (none_ok t k)

      checks_next : (left : ℕ) (step : Step) → Checks block d steps told left s → step_with block 0 (Validating d 0 left false) step s ≡ Some (Ok t) → Phase t
      checks_next (suc left) CheckRead h k = comes_to one_step (with_task 0 (Validating d 0 left false) s) (check_stands block s d left h.now h.stand) k (λ i. checks (checks_on h i))
      checks_next zero Decide h k = comes_to one_validation (with_task 0 Idle s) (none_taken d 0 s) k (λ i. rests (decides_on h i))
      checks_next left step h k = absurd (none_ok t k)

    goes_on : (step : Step) → Phase s → worker_step block 0 step s ≡ Some (Ok t) → Phase t
    goes_on step (rests h) k = rests_on step h (by_task step h.now.does k)
    goes_on step (runs {answers = answers} h) k = runs_on answers step h (by_task step h.now.does k)
    goes_on step (moves {run = run} {keys = keys} {new = new} h) k = moves_next run keys new step h (by_task step h.now.does k)
    goes_on step (waits h) k = waits_next step h (by_task step h.now.does k)
    goes_on step (checks {left = left} h) k = checks_next left step h (by_task step h.now.does k)

  -- ---- all states

  phase_of : (s : State) → Reached block 1 s → Phase s
  phase_of s started = rests (first block)
  phase_of t (stepped {s} w step before w_in k) =
      let none : w ≡ 0 = omega (arith, w_in) in
      let inv = worker_kept block 1 w s t (invariant_kept block 1 s before) w_in step k in
      goes_on s t inv step (phase_of s before) (subst (λ x. worker_step block x step s ≡ Some (Ok t)) none k)

  -- once the worker is done, all calls are finished
  done_in : (s : State) → IsOver block s → Phase s → (steps told : ℕ) × OneWorkerDid block.count steps (2 * block.count + told) told s
  done_in s over (rests {steps = steps} {told = told} h) = let e = h.now.runs_from in let all = over.execution in (steps, told, did_all h (omega (arith, e, all)))
  done_in s over (runs h) = let none = over.idle 0 in let some = h.now.does in cc
  done_in s over (moves h) = let none = over.idle 0 in let some = h.now.does in cc
  done_in s over (waits h) = let e = h.now.runs_from in let v = h.now.checks_from in let ran = over.execution in let checked = over.validation in absurd (omega (arith, e, v, ran, checked))
  done_in s over (checks h) = let none = over.idle 0 in let some = h.now.does in cc

pub counts_where_reached : OneWorkerCountsWhereReached
counts_where_reached block s reached done = done_in block s (over_at_done block 1 s (invariant_kept block 1 s reached) done) (phase_of block s reached)
