-- How a worker's counts bound each other.
use Rattle.std.proofs.Common.{◌≡◌, ◌<◌, ◌≤◌, ◌+◌, ◌&&◌, nat_lt, ℕ, suc, Bool, length, replicate, get_or, set, arith, refl, sym, subst, inl, inr}
use Rattle.std.proofs.lemmas.Bool.{cases_eq, cond_both}
use Rattle.std.proofs.lemmas.List.{get_or-set_same, get_or-set_other}
use Rattle.rv_ledger.specs.declared.outcome.Counts.{Counts}
use Rattle.stm_state.specs.declared.state.Task.{Task}
use Rattle.stm_state.specs.State.{State, no_counts, start_state, call_at, is_executed, is_ready, is_done}
use Rattle.stm_state.specs.Steps.{Block, Step, counted, one_step, one_asking, one_execution, one_validation, ask_validation, ask_execution, after_ask, count_done, after_read_key, after_park, resume_dependents, to_validate, after_record, after_move_key, after_finish_execution, after_check_read, after_decide, after_mark_estimate, after_finish_abort, is_executed_at, next_stands}
use Rattle.stm_state.specs.Done.{Reached, started, stepped}
use Rattle.stm_state.proofs.StepsByTask.{IsMade, by_ask, by_read, by_park, by_record, by_move, by_finish, by_check, by_decide, by_mark, by_abort, made}
use Rattle.stm_state.proofs.Lists.{replicated}
use Rattle.stm_state.proofs.InvariantKept.{invariant_kept}

-- each `Ask` step, execution and decision is a step, and only an `Ask` step is answered Done
pub record Within (c : Counts) (told : ℕ) : Type 0 where
  pub asks : c.asks ≤ c.steps
  pub executions : c.executions ≤ c.steps
  pub validations : c.validations ≤ c.steps
  pub dones : told ≤ c.asks

-- `Within` holds of each worker's counts
abbrev CountsWithin : State → Type 0
CountsWithin s = (x : ℕ) → Within (get_or s.counts x no_counts) (get_or s.dones x 0)

-- a step changes neither the counts nor the numbers of `Ask` steps answered Done
abbrev pub IsSilent : State → State → Type 0
IsSilent s t = (t.counts ≡ s.counts) × (t.dones ≡ s.dones)

-- ---- steps that are silent before they are counted

pub ask_validation_silent : (w : ℕ) (s : State) → IsSilent s (ask_validation w s)
unfolding ask_validation
ask_validation_silent w s = cond_both (is_executed (call_at s s.validation).status) _ _ (λ t. IsSilent s t) (λ _. (refl, refl)) (λ _. (refl, refl))

pub ask_execution_silent : (w : ℕ) (s : State) → IsSilent s (ask_execution w s)
unfolding ask_execution
ask_execution_silent w s = cond_both (is_ready (call_at s s.execution).status) _ _ (λ t. IsSilent s t) (λ _. (refl, refl)) (λ _. (refl, refl))

pub parked_silent : (w i b : ℕ) (s : State) → IsSilent s (after_park w i b s)
unfolding after_park
parked_silent w i b s = cond_both (is_executed (call_at s b).status) _ _ (λ t. IsSilent s t) (λ _. (refl, refl)) (λ _. (refl, refl))

to_validate_silent : (w i : ℕ) (new : Bool) (task : Task) (s : State) → IsSilent s (to_validate w i new task s)
unfolding to_validate
to_validate_silent w i new task s = cond_both (nat_lt i s.validation) _ _ (λ t. IsSilent s t) (λ _. cond_both new _ _ (λ t. IsSilent s t) (λ _. (refl, refl)) (λ _. (refl, refl))) (λ _. (refl, refl))

pub executed_silent : (w i : ℕ) (new : Bool) (s : State) → IsSilent s (after_finish_execution w i new s)
unfolding resume_dependents
executed_silent w i new s = to_validate_silent w i new _ _

pub checked_silent : (w i n left : ℕ) (s : State) → IsSilent s (after_check_read w i n left s)
unfolding after_check_read
checked_silent w i n left s = cond_both (is_executed_at n (call_at s i)) _ _ (λ t. IsSilent s t) (λ _. cond_both (next_stands i (suc left) s) _ _ (λ t. IsSilent s t) (λ _. (refl, refl)) (λ _. (refl, refl))) (λ _. (refl, refl))

pub decided_silent : (w i n : ℕ) (failed : Bool) (s : State) → IsSilent s (after_decide w i n failed s)
unfolding after_decide
decided_silent w i n failed s = cond_both (failed && is_executed_at n (call_at s i)) _ _ (λ t. IsSilent s t) (λ _. (refl, refl)) (λ _. (refl, refl))

pub aborted_silent : (w i : ℕ) (s : State) → IsSilent s (after_finish_abort w i s)
unfolding after_finish_abort
aborted_silent w i s = cond_both (nat_lt i s.execution) _ _ (λ t. IsSilent s t) (λ _. (refl, refl)) (λ _. (refl, refl))

-- ---- counting

-- counting a step keeps `Within`
abbrev Keeps : (Counts → Counts) → Type 0
Keeps add = (c : Counts) (d : ℕ) → Within c d → Within (add c) d

step_keeps : Keeps one_step
step_keeps c d h = record { asks = omega (arith, h.asks); executions = omega (arith, h.executions); validations = omega (arith, h.validations); dones = h.dones }

asking_keeps : Keeps one_asking
asking_keeps c d h = record { asks = omega (arith, h.asks); executions = omega (arith, h.executions); validations = omega (arith, h.validations); dones = omega (arith, h.dones) }

execution_keeps : Keeps one_execution
execution_keeps c d h = record { asks = omega (arith, h.asks); executions = omega (arith, h.executions); validations = omega (arith, h.validations); dones = h.dones }

validation_keeps : Keeps one_validation
validation_keeps c d h = record { asks = omega (arith, h.asks); executions = omega (arith, h.executions); validations = omega (arith, h.validations); dones = h.dones }

module _ (s : State) (w : ℕ) (h : CountsWithin s) (w_in : w < length s.counts) where
  -- a silent step keeps the counts right when it is counted
  silent_kept : (add : Counts → Counts) (t : State) → Keeps add → IsSilent s t → CountsWithin (counted add w t)
  silent_kept add t keeps silent x = subst (λ c. Within (get_or (set c w (add (get_or c w no_counts))) x no_counts) (get_or t.dones x 0)) (sym silent.0)
      (subst (λ d. Within (get_or (set s.counts w (add (get_or s.counts w no_counts))) x no_counts) (get_or d x 0)) (sym silent.1) (elim (cases_eq x w) [
        | inl e ↦ subst (λ y. Within (get_or (set s.counts w (add (get_or s.counts w no_counts))) y no_counts) (get_or s.dones y 0)) (sym e)
            (subst (λ c. Within c (get_or s.dones w 0)) (sym (get_or-set_same s.counts w (add (get_or s.counts w no_counts)) no_counts w_in)) (keeps _ _ (h w)))
        | inr ne ↦ subst (λ c. Within c (get_or s.dones x 0)) (sym (get_or-set_other s.counts w x (add (get_or s.counts w no_counts)) no_counts ne)) (h x)
      ]))

  -- an `Ask` step that is answered Done
  told_kept : w < length s.dones → CountsWithin (counted one_asking w (count_done w s))
  told_kept w_told x = elim (cases_eq x w) [
    | inl e ↦ subst (λ y. Within (get_or (set s.counts w (one_asking (get_or s.counts w no_counts))) y no_counts) (get_or (set s.dones w (get_or s.dones w 0 + 1)) y 0)) (sym e)
        (subst (λ c. Within c (get_or (set s.dones w (get_or s.dones w 0 + 1)) w 0)) (sym (get_or-set_same s.counts w (one_asking (get_or s.counts w no_counts)) no_counts w_in))
        (subst (λ d. Within (one_asking (get_or s.counts w no_counts)) d) (sym (get_or-set_same s.dones w (get_or s.dones w 0 + 1) 0 w_told))
        (let old = h w in record { asks = omega (arith, old.asks); executions = omega (arith, old.executions); validations = omega (arith, old.validations); dones = omega (arith, old.dones) })))
    | inr ne ↦ subst (λ c. Within c (get_or (set s.dones w (get_or s.dones w 0 + 1)) x 0)) (sym (get_or-set_other s.counts w x (one_asking (get_or s.counts w no_counts)) no_counts ne))
        (subst (λ d. Within (get_or s.counts x no_counts) d) (sym (get_or-set_other s.dones w x (get_or s.dones w 0 + 1) 0 ne)) (h x))
  ]

  -- any `Ask` step
  asked_kept : w < length s.dones → CountsWithin (counted one_asking w (after_ask w s))
  asked_kept w_told = cond_both (is_done s) _ _ (λ t. CountsWithin (counted one_asking w t))
      (λ _. told_kept w_told)
      (λ _. cond_both (nat_lt s.validation s.execution) _ _ (λ t. CountsWithin (counted one_asking w t))
      (λ _. silent_kept one_asking (ask_validation w s) asking_keeps (ask_validation_silent w s))
      (λ _. cond_both (nat_lt s.execution (length s.calls)) _ _ (λ t. CountsWithin (counted one_asking w t))
      (λ _. silent_kept one_asking (ask_execution w s) asking_keeps (ask_execution_silent w s))
      (λ _. silent_kept one_asking s asking_keeps (refl, refl))))

-- ---- one step

module _ (block : Block) (w : ℕ) (s : State) (h : CountsWithin s) (w_in : w < length s.counts) (w_told : w < length s.dones) where
  -- each step that is made keeps the counts right
  made_keeps : (step : Step) (t : State) → IsMade block w s step t → CountsWithin t
  made_keeps step t (by_ask at) = asked_kept s w h w_in w_told
  made_keeps step t (by_read i answers key at) = silent_kept s w h w_in one_step (after_read_key block.base key w i answers s) step_keeps (refl, refl)
  made_keeps step t (by_park i b answers at below) = silent_kept s w h w_in one_step (after_park w i b s) step_keeps (parked_silent w i b s)
  made_keeps step t (by_record i answers receipt at bears below) = silent_kept s w h w_in one_execution (after_record w i answers receipt s) execution_keeps (refl, refl)
  made_keeps step t (by_move i key keys new at) = silent_kept s w h w_in one_step (after_move_key w i key keys new s) step_keeps (refl, refl)
  made_keeps step t (by_finish i new at) = silent_kept s w h w_in one_step (after_finish_execution w i new s) step_keeps (executed_silent w i new s)
  made_keeps step t (by_check i n left at) = silent_kept s w h w_in one_step (after_check_read w i n left s) step_keeps (checked_silent w i n left s)
  made_keeps step t (by_decide i n left failed at last) = silent_kept s w h w_in one_validation (after_decide w i n failed s) validation_keeps (decided_silent w i n failed s)
  made_keeps step t (by_mark i key keys at) = silent_kept s w h w_in one_step (after_mark_estimate w i key keys s) step_keeps (refl, refl)
  made_keeps step t (by_abort i at) = silent_kept s w h w_in one_step (after_finish_abort w i s) step_keeps (aborted_silent w i s)

-- ---- all states

-- in the start state no worker has done anything
first_within : (block : Block) (workers : ℕ) → CountsWithin (start_state block.count workers)
first_within block workers x = subst (λ c. Within c (get_or (replicate workers 0) x 0)) (sym (replicated workers x no_counts))
    (subst (λ d. Within no_counts d) (sym (replicated workers x 0)) (record { asks = omega arith; executions = omega arith; validations = omega arith; dones = omega arith }))

-- in each state that is reached, `Within` holds of a worker's counts and its `Ask` steps answered Done
pub counts_within : (block : Block) (workers : ℕ) (s : State) → Reached block workers s → (w : ℕ) → Within (get_or s.counts w no_counts) (get_or s.dones w 0)
counts_within block workers s started = first_within block workers
counts_within block workers t (stepped {s} w step before w_in k) =
    let sized = (invariant_kept block workers s before).sized in
    made_keeps block w s (counts_within block workers s before) (let e = sized.counts in omega (arith, e, w_in)) (let e = sized.dones in omega (arith, e, w_in)) step t (made block w s t step k)
