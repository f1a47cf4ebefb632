-- In each state that steps lead to, a worker has at most 512 keys left to move or to mark.
use Rattle.std.proofs.Common.{◌≡◌, ◌<◌, ◌≤◌, ◌*◌, ◌&&◌, nat_lt, not, ℕ, suc, Bool, false, List, length, set, Option, Some, Ok, arith, sym, subst, length-append}
use Rattle.std.specs.FinMap.{contains_key, entries, len, len-entries}
use Rattle.std.specs.List.{All}
use Rattle.std.proofs.lemmas.Bool.{cond_both}
use Rattle.std.proofs.lemmas.List.{length-map}
use Rattle.std.proofs.lemmas.List.Elements.{All-get_or, All-set, All-replicate}
use Rattle.std.proofs.lemmas.List.Sums.{length-filter, count_by-le-length}
use Rattle.rv_ledger.specs.Change.{ContentChange}
use Rattle.rv_ledger.specs.Key.{Storage, WriteMap}
use Rattle.rv_step.specs.Replies.{replies_of}
use Rattle.rv_step.specs.declared.answer.StorageAnswer.{StorageAnswer}
use Rattle.mvmap.specs.Reading.{reading}
use Rattle.stm_state.specs.declared.state.Recorded.{Recorded}
use Rattle.stm_state.specs.declared.state.Task.{Task}
use Rattle.stm_state.specs.declared.state.Task.TheVariants.{Idle, Moving, Validating, Marking}
use Rattle.stm_state.specs.State.{State, call_at, task_at, is_executed, is_ready, is_done}
use Rattle.stm_state.specs.Steps.{Step, answered_with, ask_validation, ask_execution, after_ask, after_park, resume_dependents, to_validate, after_finish_execution, after_check_read, after_decide, after_finish_abort, is_executed_at, keys_of, keys_to_move, left_over, next_stands, written_by, worker_step}
use Rattle.stm_state.specs.Done.{Reached, started, stepped}
use Rattle.stm_state.proofs.Invariant.{Invariant}
use Rattle.stm_state.proofs.StepsByTask.{IsMade, by_ask, by_read, by_park, by_record, by_move, by_finish, by_check, by_decide, by_mark, by_abort, made}
use Rattle.stm_state.proofs.InvariantKept.{invariant_kept}
use Rattle.never_stuck.proofs.UnstuckGoals.{Setting, block}
use Rattle.never_stuck.proofs.RunReads.{ReadOutcome, answers_run, blocks_run, read_outcome}
use Rattle.never_stuck.proofs.Sizes.{borne_small, written_few}

-- a task has at most 512 keys left
abbrev pub HasFewKeys : Task → Type 0
HasFewKeys (Moving i keys new) = length keys ≤ 512
HasFewKeys (Marking i keys) = length keys ≤ 512
HasFewKeys task = Unit {0}

-- so it is with each task
abbrev pub AllFewKeys : State → Type 0
AllFewKeys s = All HasFewKeys s.tasks

-- ---- what a step changes

module _ (w : ℕ) (s : State) (h : AllFewKeys s) where
  -- the worker takes another task
  takes : (task : Task) → HasFewKeys task → All HasFewKeys (set s.tasks w task)
  takes task few = All-set HasFewKeys s.tasks w task few h

  -- an asking
  ask_validation_few : AllFewKeys (ask_validation w s)
  unfolding ask_validation
  ask_validation_few = cond_both (is_executed (call_at s s.validation).status) _ _ (λ t. AllFewKeys t) (λ _. takes _ tt) (λ _. h)

  ask_execution_few : AllFewKeys (ask_execution w s)
  unfolding ask_execution
  ask_execution_few = cond_both (is_ready (call_at s s.execution).status) _ _ (λ t. AllFewKeys t) (λ _. takes _ tt) (λ _. h)

  asked_few : AllFewKeys (after_ask w s)
  asked_few = cond_both (is_done s) _ _ (λ t. AllFewKeys t) (λ _. h)
      (λ _. cond_both (nat_lt s.validation s.execution) _ _ (λ t. AllFewKeys t) (λ _. ask_validation_few)
      (λ _. cond_both (nat_lt s.execution (length s.calls)) _ _ (λ t. AllFewKeys t) (λ _. ask_execution_few) (λ _. h)))

  -- a read
  read_few : (base : Storage) (key : List ℕ) (i : ℕ) (answers : List StorageAnswer) → All HasFewKeys (set s.tasks w (answered_with base key i answers (reading s.versions key i)))
  read_few base key i answers = go (read_outcome base key i answers (reading s.versions key i))
    where
      go : ReadOutcome base key i answers (reading s.versions key i) → All HasFewKeys (set s.tasks w (answered_with base key i answers (reading s.versions key i)))
      go (answers_run answered) = takes _ (subst HasFewKeys (sym answered.task) tt)
      go (blocks_run b seen waits) = takes _ (subst HasFewKeys (sym waits) tt)

  -- a run that is parked or starts again
  parked_few : (i b : ℕ) → AllFewKeys (after_park w i b s)
  unfolding after_park
  parked_few i b = cond_both (is_executed (call_at s b).status) _ _ (λ t. AllFewKeys t) (λ _. takes _ tt) (λ _. takes _ tt)

  -- a check of a read, a decision and the end of an abort
  checked_few : (i n left : ℕ) → AllFewKeys (after_check_read w i n left s)
  unfolding after_check_read
  checked_few i n left = cond_both (is_executed_at n (call_at s i)) _ _ (λ t. AllFewKeys t)
      (λ _. cond_both (next_stands i (suc left) s) _ _ (λ t. AllFewKeys t) (λ _. takes _ tt) (λ _. takes _ tt)) (λ _. takes _ tt)

  decided_few : (i n : ℕ) (failed : Bool) → length (keys_of (written_by (call_at s i).last)) ≤ 256 → AllFewKeys (after_decide w i n failed s)
  unfolding after_decide
  decided_few i n failed few = cond_both (failed && is_executed_at n (call_at s i)) _ _ (λ t. AllFewKeys t) (λ _. takes _ (omega (arith, few))) (λ _. takes _ tt)

  aborted_few : (i : ℕ) → AllFewKeys (after_finish_abort w i s)
  unfolding after_finish_abort
  aborted_few i = cond_both (nat_lt i s.execution) _ _ (λ t. AllFewKeys t) (λ _. takes _ tt) (λ _. takes _ tt)

  -- what is validated again after an execution
  to_validate_few : (i n left : ℕ) (new : Bool) → AllFewKeys (to_validate w i new (Validating i n left false) s)
  unfolding to_validate
  to_validate_few i n left new = cond_both (nat_lt i s.validation) _ _ (λ t. AllFewKeys t) (λ _. cond_both new _ _ (λ t. AllFewKeys t) (λ _. takes _ tt) (λ _. takes _ tt)) (λ _. takes _ tt)

-- the end of an execution
executed_few : (w : ℕ) (s : State) → AllFewKeys s → (i : ℕ) (new : Bool) → AllFewKeys (after_finish_execution w i new s)
unfolding resume_dependents
executed_few w s h i new = to_validate_few w _ h i (call_at s i).incarnation _ new

-- the keys that a run must move are at most those that it wrote and those that the run before it wrote
pub keys_few : (most : ℕ) (last : Option Recorded) (writes : WriteMap) → len writes ≤ most → length (keys_of (written_by last)) ≤ most → length (keys_to_move last writes) ≤ 2 * most
keys_few most last writes few before =
    let p : List ℕ × ContentChange → Bool = λ write. not (contains_key writes write.0) in
    omega (
      arith,
      few,
      before,
      len-entries writes,
      length-append (keys_of (entries writes)) (keys_of (left_over last writes)),
      length-map (entries writes) (λ write. write.0),
      length-map (left_over last writes) (λ write. write.0),
      length-map (written_by last) (λ write. write.0),
      length-filter p (written_by last),
      count_by-le-length p (written_by last),
    )

-- ---- all states

module _ (setting : Setting) where
  -- a step leaves each task with few keys, if the worker's own task has few
  made_few : (w : ℕ) (s : State) → Invariant (block setting) setting.workers s → AllFewKeys s → HasFewKeys (task_at s w) → (step : Step) (t : State) → IsMade (block setting) w s step t → AllFewKeys t
  made_few w s inv h own step t (by_ask at) = asked_few w s h
  made_few w s inv h own step t (by_read i answers key at) = read_few w s h setting.store key i answers
  made_few w s inv h own step t (by_park i b answers at below) = parked_few w s h i b
  made_few w s inv h own step t (by_record i answers receipt at bears below) =
      takes w s h _ (keys_few 256 (call_at s i).last receipt.writes (borne_small setting i (replies_of answers) receipt bears).0 (written_few setting s inv.facts i))
  made_few w s inv h own step t (by_move i key keys new at) = takes w s h _ (let few : suc (length keys) ≤ 512 = subst HasFewKeys at own in omega (arith, few))
  made_few w s inv h own step t (by_finish i new at) = executed_few w s h i new
  made_few w s inv h own step t (by_check i n left at) = checked_few w s h i n left
  made_few w s inv h own step t (by_decide i n left failed at last) = decided_few w s h i n failed (written_few setting s inv.facts i)
  made_few w s inv h own step t (by_mark i key keys at) = takes w s h _ (let few : suc (length keys) ≤ 512 = subst HasFewKeys at own in omega (arith, few))
  made_few w s inv h own step t (by_abort i at) = aborted_few w s h i

  -- so each step does
  pub few_after : (w : ℕ) (s t : State) (step : Step) → Invariant (block setting) setting.workers s → w < setting.workers → worker_step (block setting) w step s ≡ Some (Ok t) → AllFewKeys s → AllFewKeys t
  few_after w s t step inv w_in k h = made_few w s inv h (All-get_or HasFewKeys s.tasks w Idle (let size = inv.sized.tasks in omega (arith, size, w_in)) h) step t (made (block setting) w s t step k)

  -- each task has few keys in each state that is reached
  pub few_where_reached : (s : State) → Reached (block setting) setting.workers s → AllFewKeys s
  few_where_reached s started = All-replicate HasFewKeys setting.workers Idle tt
  few_where_reached t (stepped {s} w step before w_in k) = few_after w s t step (invariant_kept (block setting) setting.workers s before) w_in k (few_where_reached s before)
