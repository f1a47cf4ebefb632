-- The steps that are made, by the worker's task.
use Rattle.std.proofs.Common.{◌≡◌, ◌<◌, ◌+◌, nat_lt, nat_le, ℕ, zero, suc, Bool, true, false, cond, List, [], ◌∷◌, Option, None, Some, Result, Ok, Err, refl, subst}
use Rattle.std.specs.FinMap.{len}
use Rattle.rv_ledger.specs.declared.receipt.Receipt.{Receipt}
use Rattle.rv_step.specs.Replies.{replies_of}
use Rattle.rv_step.specs.declared.answer.StorageAnswer.{StorageAnswer}
use Rattle.stm_state.specs.declared.state.Task.{Task}
use Rattle.stm_state.specs.declared.state.Task.TheVariants.{Idle, Running, Moving, Validating, Marking}
use Rattle.stm_state.specs.Limits.{record_limit, incarnation_limit}
use Rattle.stm_state.specs.State.{State, call_at, task_at}
use Rattle.stm_state.specs.Steps.{Block, Step, Ask, ReadKey, Park, Record, MoveKey, FinishExecution, CheckRead, Decide, MarkEstimate, FinishAbort, Limit, ArenaFull, IncarnationLimit, counted, one_step, one_asking, one_execution, one_validation, after_ask, after_read_key, after_park, after_record, after_move_key, after_finish_execution, after_check_read, after_decide, after_mark_estimate, after_finish_abort, record_within, step_with, worker_step}
use Rattle.stm_state.proofs.Tests.{not_le_says}

-- a step has one result
pub same_state : (s t : State) → ◌≡◌ {A = Option (Result State Limit)} (Some (Ok s)) (Some (Ok t)) → s ≡ t
same_state s t h = cc

-- a step that is not due has no result
pub none_ok : (t : State) → ◌≡◌ {A = Option (Result State Limit)} None (Some (Ok t)) → ⊥
none_ok t h = cc

-- a step that is refused leads to no state
pub err_ok : (e : Limit) (t : State) → ◌≡◌ {A = Option (Result State Limit)} (Some (Err e)) (Some (Ok t)) → ⊥
err_ok e t h = cc

-- a step of a worker is made, and leads to a state
pub data IsMade (block : Block) (w : ℕ) (s : State) : Step → State → Type 0 where
  by_ask : task_at s w ≡ Idle → IsMade block w s Ask (counted one_asking w (after_ask w s))
  by_read : (i : ℕ) (answers : List StorageAnswer) (key : List ℕ) → task_at s w ≡ Running i answers None → IsMade block w s (ReadKey key) (counted one_step w (after_read_key block.base key w i answers s))
  by_park : (i b : ℕ) (answers : List StorageAnswer) → task_at s w ≡ Running i answers (Some b) → (call_at s i).incarnation < incarnation_limit → IsMade block w s Park (counted one_step w (after_park w i b s))
  by_record : (i : ℕ) (answers : List StorageAnswer) (receipt : Receipt) → task_at s w ≡ Running i answers None → block.borne_out i (replies_of answers) ≡ Some receipt → (call_at s i).incarnation < incarnation_limit
      → IsMade block w s Record (counted one_execution w (after_record w i answers receipt s))
  by_move : (i : ℕ) (key : List ℕ) (keys : List (List ℕ)) (new : Bool) → task_at s w ≡ Moving i (key ∷ keys) new → IsMade block w s MoveKey (counted one_step w (after_move_key w i key keys new s))
  by_finish : (i : ℕ) (new : Bool) → task_at s w ≡ Moving i [] new → IsMade block w s FinishExecution (counted one_step w (after_finish_execution w i new s))
  by_check : (i n left : ℕ) → task_at s w ≡ Validating i n (suc left) false → IsMade block w s CheckRead (counted one_step w (after_check_read w i n left s))
  by_decide : (i n left : ℕ) (failed : Bool) → task_at s w ≡ Validating i n left failed → (failed ≡ false → left ≡ 0) → IsMade block w s Decide (counted one_validation w (after_decide w i n failed s))
  by_mark : (i : ℕ) (key : List ℕ) (keys : List (List ℕ)) → task_at s w ≡ Marking i (key ∷ keys) → IsMade block w s MarkEstimate (counted one_step w (after_mark_estimate w i key keys s))
  by_abort : (i : ℕ) → task_at s w ≡ Marking i [] → IsMade block w s FinishAbort (counted one_step w (after_finish_abort w i s))

module _ (block : Block) (w : ℕ) (s t : State) where
  -- a state that the step leads to
  comes : (step : Step) (u : State) → IsMade block w s step u → ◌≡◌ {A = Option (Result State Limit)} (Some (Ok u)) (Some (Ok t)) → IsMade block w s step t
  comes step u h k = subst (IsMade block w s step) (same_state u t k) h

  -- a record within the limits
  record_made : (i : ℕ) (answers : List StorageAnswer) (o : Option Receipt) → task_at s w ≡ Running i answers None → block.borne_out i (replies_of answers) ≡ o → record_within i answers w o s ≡ Some (Ok t) → IsMade block w s Record t
  record_made i answers None at e k = absurd (none_ok t k)
  record_made i answers (Some receipt) at e k = go (nat_lt record_limit (s.record_count + len receipt.writes)) (nat_le incarnation_limit (call_at s i).incarnation) refl k
    where
      go : (full spent : Bool) → nat_le incarnation_limit (call_at s i).incarnation ≡ spent → cond full (Some (Err ArenaFull)) (cond spent (Some (Err IncarnationLimit)) (Some (Ok (counted one_execution w (after_record w i answers receipt s))))) ≡ Some (Ok t) → IsMade block w s Record t
      go true spent below k = absurd (err_ok ArenaFull t k)
      go false true below k = absurd (err_ok IncarnationLimit t k)
      go false false below k = comes Record _ (by_record i answers receipt at e (not_le_says incarnation_limit (call_at s i).incarnation below)) k

  -- parking within the limit
  park_made : (i b : ℕ) (answers : List StorageAnswer) → task_at s w ≡ Running i answers (Some b) → (spent : Bool) → nat_le incarnation_limit (call_at s i).incarnation ≡ spent
      → cond spent (Some (Err IncarnationLimit)) (Some (Ok (counted one_step w (after_park w i b s)))) ≡ Some (Ok t) → IsMade block w s Park t
  park_made i b answers at true below k = absurd (err_ok IncarnationLimit t k)
  park_made i b answers at false below k = comes Park _ (by_park i b answers at (not_le_says incarnation_limit (call_at s i).incarnation below)) k

  -- by the worker's task
  made_by : (task : Task) → task_at s w ≡ task → (step : Step) → step_with block w task step s ≡ Some (Ok t) → IsMade block w s step t
  made_by Idle at Ask k = comes Ask _ (by_ask at) k
  made_by (Running i answers None) at (ReadKey key) k = comes (ReadKey key) _ (by_read i answers key at) k
  made_by (Running i answers (Some b)) at Park k = park_made i b answers at (nat_le incarnation_limit (call_at s i).incarnation) refl k
  made_by (Running i answers None) at Record k = record_made i answers (block.borne_out i (replies_of answers)) at refl k
  made_by (Moving i (key ∷ keys) new) at MoveKey k = comes MoveKey _ (by_move i key keys new at) k
  made_by (Moving i [] new) at FinishExecution k = comes FinishExecution _ (by_finish i new at) k
  made_by (Validating i n (suc left) false) at CheckRead k = comes CheckRead _ (by_check i n left at) k
  made_by (Validating i n zero false) at Decide k = comes Decide _ (by_decide i n zero false at (λ _. refl)) k
  made_by (Validating i n left true) at Decide k = comes Decide _ (by_decide i n left true at (λ h. cc)) k
  made_by (Marking i (key ∷ keys)) at MarkEstimate k = comes MarkEstimate _ (by_mark i key keys at) k
  made_by (Marking i []) at FinishAbort k = comes FinishAbort _ (by_abort i at) k
  made_by task at step k = absurd (none_ok t k)

  -- a step that leads to a state is made
  pub made : (step : Step) → worker_step block w step s ≡ Some (Ok t) → IsMade block w s step t
  made step k = made_by (task_at s w) refl step k
