-- In each state that a list of worker numbers leads to, the step that a worker owes is due.
use Rattle.std.proofs.Common.{◌≡◌, ◌<◌, ℕ, ◌+◌, ◌++◌, ◌&&◌, nat_lt, nat_le, zero, suc, Bool, true, false, List, [], ◌∷◌, length, set, slice_get, Option, None, Some, IsSome, arith, refl, sym, ap, subst, ◌∙◌}
use Rattle.std.specs.FinMap.{get, len}
use Rattle.std.specs.List.{All}
use Rattle.std.proofs.lemmas.Bool.{cond_both}
use Rattle.std.proofs.lemmas.List.{map-append}
use Rattle.std.proofs.lemmas.List.Elements.{All-get_or, All-set, All-replicate}
use Rattle.rv_ledger.specs.Key.{Storage}
use Rattle.rv_ledger.specs.Call.{Invocation}
use Rattle.rv_ledger.specs.declared.receipt.Receipt.{Receipt}
use Rattle.read_set.specs.Origin.{Origin}
use Rattle.rv_step.specs.Replies.{reply_of, replies_of}
use Rattle.rv_step.specs.declared.answer.StorageAnswer.{StorageAnswer}
use Rattle.mvmap.specs.Reading.{Visible, blocker, origin_in, reading, value_seen}
use Rattle.stm_state.specs.declared.state.Task.{Task}
use Rattle.stm_state.specs.declared.state.Task.TheVariants.{Idle, Running, Moving, Validating, Marking}
use Rattle.stm_state.specs.Limits.{record_limit, incarnation_limit}
use Rattle.stm_state.specs.State.{State, call_at, task_at, is_executed, is_ready, is_done}
use Rattle.stm_state.specs.Steps.{Step, ReadKey, ask_validation, ask_execution, after_ask, answered_by, answered_with, after_park, resume_dependents, to_validate, after_finish_execution, after_check_read, after_decide, after_finish_abort, is_executed_at, next_stands, record_within, step_with}
use Rattle.stm_state.specs.Done.{Reached, started, stepped, borne_out_by, block_of}
use Rattle.stm_state.specs.Drive.{due_step_of_run, asked_at, due_step, DrivenTo, at_start, made_step, DueStepHasResult}
use Rattle.stm_state.proofs.Invariant.{Invariant, named_by}
use Rattle.stm_state.proofs.StepsByTask.{IsMade, by_ask, by_read, by_park, by_record, by_move, by_finish, by_check, by_decide, by_mark, by_abort, made}
use Rattle.stm_state.proofs.InvariantKept.{invariant_kept}
use Rattle.stm_state.proofs.OneWorkerPhases.{call_there}
use Rattle.stm_state.proofs.FurtherAsks.{GoesOn, goes_first, goes_next, goes_last}

-- each state that a list of worker numbers leads to is reached
pub reached_where_led : (calls : List Invocation) (store : Storage) (workers : ℕ) (s : State) → DrivenTo calls store workers s → Reached (block_of calls store) workers s
reached_where_led calls store workers s at_start = started
reached_where_led calls store workers t (made_step {s} w before w_in k) = stepped w (due_step calls (task_at s w)) (reached_where_led calls store workers s before) w_in k

-- the call that a task runs continues after the task's answers
abbrev pub Goes : List Invocation → Task → Type 0
Goes calls Idle = Unit {0}
Goes calls (Running i answers waits) = (call : Invocation) → slice_get calls i ≡ Some call → GoesOn call (replies_of answers)
Goes calls (Moving i keys new) = Unit {0}
Goes calls (Validating i n left failed) = Unit {0}
Goes calls (Marking i keys) = Unit {0}

-- each task's call continues
abbrev pub AllGo : List Invocation → State → Type 0
AllGo calls s = All (Goes calls) s.tasks

-- ---- what is owed is due

module _ (calls : List Invocation) (store : Storage) (w : ℕ) (s : State) where
  -- a record is made or refused
  record_due : (i : ℕ) (answers : List StorageAnswer) (receipt : Receipt) → IsSome (record_within i answers w (Some receipt) s)
  record_due i answers receipt = cond_both (nat_lt record_limit (s.record_count + len receipt.writes)) _ _ (λ o. IsSome o) (λ _. refl)
      (λ _. cond_both (nat_le incarnation_limit (call_at s i).incarnation) _ _ (λ o. IsSome o) (λ _. refl) (λ _. refl))

  -- the step of a run is due, whether it is a read or a record
  run_due : (i : ℕ) (answers : List StorageAnswer) → i < length calls → Goes calls (Running i answers None) → (o : Option (List ℕ)) → asked_at (slice_get calls i) (replies_of answers) ≡ o
      → IsSome (step_with (block_of calls store) w (Running i answers None) (due_step_of_run o) s)
  run_due i answers within g (Some key) asks = refl
  run_due i answers within g None asks =
      let there = call_there calls i within in
      let ended = goes_last there.0 (replies_of answers) (g there.0 there.1) (ap (λ o. asked_at o (replies_of answers)) (sym there.1) ∙ asks) in
      subst (λ o. IsSome (record_within i answers w o s)) (sym (ap (λ o. borne_out_by o (replies_of answers)) there.1 ∙ ended.1)) (record_due i answers ended.0)

  -- each step that is owed is due
  owed_due : (task : Task) → ((i : ℕ) → named_by task ≡ Some i → i < length calls) → Goes calls task → IsSome (step_with (block_of calls store) w task (due_step calls task) s)
  owed_due (Running i answers None) named g = run_due i answers (named i refl) g (asked_at (slice_get calls i) (replies_of answers)) refl
  owed_due (Running i answers (Some b)) named g = cond_both (nat_le incarnation_limit (call_at s i).incarnation) _ _ (λ o. IsSome o) (λ _. refl) (λ _. refl)
  owed_due (Moving i [] new) named g = refl
  owed_due (Validating i n left true) named g = refl
  owed_due (Validating i n zero false) named g = refl
  owed_due (Marking i []) named g = refl
  owed_due task named g = refl

-- ---- each task's call continues after a step

module _ (calls : List Invocation) (store : Storage) (w : ℕ) (s : State) (h : AllGo calls s) where
  -- the worker takes another task
  takes : (task : Task) → Goes calls task → All (Goes calls) (set s.tasks w task)
  takes task g = All-set (Goes calls) s.tasks w task g h

  -- a run that begins continues
  begins : (i : ℕ) → Goes calls (Running i [] None)
  begins i call there = goes_first call

  -- an `Ask` step
  ask_validation_goes : AllGo calls (ask_validation w s)
  unfolding ask_validation
  ask_validation_goes = cond_both (is_executed (call_at s s.validation).status) _ _ (λ t. AllGo calls t) (λ _. takes _ tt) (λ _. h)

  ask_execution_goes : AllGo calls (ask_execution w s)
  unfolding ask_execution
  ask_execution_goes = cond_both (is_ready (call_at s s.execution).status) _ _ (λ t. AllGo calls t) (λ _. takes _ (begins s.execution)) (λ _. h)

  asked_goes : AllGo calls (after_ask w s)
  asked_goes = cond_both (is_done s) _ _ (λ t. AllGo calls t) (λ _. h)
      (λ _. cond_both (nat_lt s.validation s.execution) _ _ (λ t. AllGo calls t) (λ _. ask_validation_goes)
      (λ _. cond_both (nat_lt s.execution (length s.calls)) _ _ (λ t. AllGo calls t) (λ _. ask_execution_goes) (λ _. h)))

  -- parking a call or starting its run again
  parked_goes : (i b : ℕ) → AllGo calls (after_park w i b s)
  unfolding after_park
  parked_goes i b = cond_both (is_executed (call_at s b).status) _ _ (λ t. AllGo calls t) (λ _. takes _ (begins i)) (λ _. takes _ tt)

  -- a check of a read, a decision and the end of an abort
  checked_goes : (i n left : ℕ) → AllGo calls (after_check_read w i n left s)
  unfolding after_check_read
  checked_goes i n left = cond_both (is_executed_at n (call_at s i)) _ _ (λ t. AllGo calls t) (λ _. cond_both (next_stands i (suc left) s) _ _ (λ t. AllGo calls t) (λ _. takes _ tt) (λ _. takes _ tt)) (λ _. takes _ tt)

  decided_goes : (i n : ℕ) (failed : Bool) → AllGo calls (after_decide w i n failed s)
  unfolding after_decide
  decided_goes i n failed = cond_both (failed && is_executed_at n (call_at s i)) _ _ (λ t. AllGo calls t) (λ _. takes _ tt) (λ _. takes _ tt)

  aborted_goes : (i : ℕ) → AllGo calls (after_finish_abort w i s)
  unfolding after_finish_abort
  aborted_goes i = cond_both (nat_lt i s.execution) _ _ (λ t. AllGo calls t) (λ _. takes _ (begins i)) (λ _. takes _ tt)

  -- what is validated again after an execution
  to_validate_goes : (i n left : ℕ) (new : Bool) → AllGo calls (to_validate w i new (Validating i n left false) s)
  unfolding to_validate
  to_validate_goes i n left new = cond_both (nat_lt i s.validation) _ _ (λ t. AllGo calls t)
      (λ _. cond_both new _ _ (λ t. AllGo calls t) (λ _. takes _ tt) (λ _. takes _ tt)) (λ _. takes _ tt)

  -- one more answer
  answered_goes : (i : ℕ) (answers : List StorageAnswer) (key : List ℕ) (content : Option (List ℕ)) (from : Origin) → asked_at (slice_get calls i) (replies_of answers) ≡ Some key
      → Goes calls (Running i (answers ++ record { key = key; value = content; origin = from } ∷ []) None)
  answered_goes i answers key content from asks call there =
      subst (GoesOn call) (sym (map-append reply_of answers (record { key = key; value = content; origin = from } ∷ [])))
      (goes_next call (replies_of answers) key content (ap (λ o. asked_at o (replies_of answers)) (sym there) ∙ asks))

  -- whatever a read sees
  seen_goes : (i : ℕ) (answers : List StorageAnswer) (key : List ℕ) → asked_at (slice_get calls i) (replies_of answers) ≡ Some key → Goes calls (Running i answers None) → (seen : Visible) → Goes calls (answered_with store key i answers seen)
  seen_goes i answers key asks g seen = go (blocker seen)
    where
      go : (o : Option ℕ) → Goes calls (answered_by store key i answers seen o)
      go None = answered_goes i answers key (value_seen (get store key) seen) (origin_in seen) asks
      go (Some b) = g

-- the end of an execution
executed_goes : (calls : List Invocation) (store : Storage) (w : ℕ) (s : State) → AllGo calls s → (i : ℕ) (new : Bool) → AllGo calls (after_finish_execution w i new s)
unfolding resume_dependents
executed_goes calls store w s h i new = to_validate_goes calls store w _ h i (call_at s i).incarnation _ new

-- ---- a due step

-- if the due step of a run reads a key, the run asks for that key
asks_for : (o : Option (List ℕ)) (key : List ℕ) → ReadKey key ≡ due_step_of_run o → o ≡ Some key
asks_for (Some other) key h = cc
asks_for None key h = cc

module _ (calls : List Invocation) (store : Storage) (w : ℕ) (s : State) (h : AllGo calls s) (own : Goes calls (task_at s w)) where
  -- each task's call continues after the due step
  pub made_goes : (step : Step) (t : State) → IsMade (block_of calls store) w s step t → step ≡ due_step calls (task_at s w) → AllGo calls t
  made_goes step t (by_ask at) due = asked_goes calls store w s h
  made_goes step t (by_read i answers key at) due = takes calls store w s h _
      (seen_goes calls store w s h i answers key (asks_for _ key (due ∙ ap (due_step calls) at)) (subst (Goes calls) at own) (reading s.versions key i))
  made_goes step t (by_park i b answers at below) due = parked_goes calls store w s h i b
  made_goes step t (by_record i answers receipt at bears below) due = takes calls store w s h _ tt
  made_goes step t (by_move i key keys new at) due = takes calls store w s h _ tt
  made_goes step t (by_finish i new at) due = executed_goes calls store w s h i new
  made_goes step t (by_check i n left at) due = checked_goes calls store w s h i n left
  made_goes step t (by_decide i n left failed at last) due = decided_goes calls store w s h i n failed
  made_goes step t (by_mark i key keys at) due = takes calls store w s h _ tt
  made_goes step t (by_abort i at) due = aborted_goes calls store w s h i

-- ---- all states

module _ (calls : List Invocation) (store : Storage) (workers : ℕ) where
  -- the invariant holds in each state that lists lead to
  holds : (s : State) → DrivenTo calls store workers s → Invariant (block_of calls store) workers s
  holds s led = invariant_kept (block_of calls store) workers s (reached_where_led calls store workers s led)

  -- each worker's index is in range
  within : (s : State) (w : ℕ) → DrivenTo calls store workers s → w < workers → w < length s.tasks
  within s w led w_in = let e = (holds s led).sized.tasks in omega (arith, e, w_in)

  -- each task's call continues
  pub all_go : (s : State) → DrivenTo calls store workers s → AllGo calls s
  all_go s at_start = All-replicate (Goes calls) workers Idle tt
  all_go t (made_step {s} w before w_in k) = made_goes calls store w s (all_go s before) (All-get_or (Goes calls) s.tasks w Idle (within s w before w_in) (all_go s before)) (due_step calls (task_at s w)) t
      (made (block_of calls store) w s t (due_step calls (task_at s w)) k) refl

-- in each state that lists lead to, the step that is owed is due
pub due_where_led : DueStepHasResult
due_where_led calls store workers s w led w_in =
    owed_due calls store w s (task_at s w) ((holds calls store workers s led).facts.named w)
    (All-get_or (Goes calls) s.tasks w Idle (within calls store workers s w led w_in) (all_go calls store workers s led))
