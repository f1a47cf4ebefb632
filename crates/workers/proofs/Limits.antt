-- What a worker's step adds to its counts, and that it keeps its limit.
use Rattle.std.proofs.Common.{◌≡◌, ◌≢◌, ◌<◌, ◌≤◌, ◌+◌, nat_lt, ℕ, length, get_or, set, Option, None, Some, Ok, arith, refl, sym, ap, subst, ◌∙◌, inr}
use Rattle.std.proofs.lemmas.Bool.{cond_both}
use Rattle.std.proofs.lemmas.List.{get_or-set_same}
use Rattle.rv_ledger.specs.declared.job.Job.{Job}
use Rattle.rv_ledger.specs.declared.outcome.Counts.{Counts}
use Rattle.stm_state.specs.State.{State, is_done, no_counts}
use Rattle.stm_state.specs.Steps.{Block, Step, Ask, after_ask, after_decide, after_finish_abort, after_finish_execution, after_check_read, after_mark_estimate, after_move_key, after_park, after_read_key, after_record, ask_execution, ask_validation, count_done, counted, one_asking, one_execution, one_step, one_validation}
use Rattle.stm_state.proofs.StepsByTask as cases
use Rattle.stm_state.proofs.StepsByTask.{by_ask, by_read, by_park, by_record, by_move, by_finish, by_check, by_decide, by_mark, by_abort, made}
use Rattle.stm_state.proofs.Counted.{aborted_silent, ask_execution_silent, ask_validation_silent, checked_silent, decided_silent, executed_silent, parked_silent}
use Rattle.stm_state.proofs.InvariantKept.{invariant_kept}
use Rattle.stm_core.specs.CoreState.{block_in}
use Rattle.stm_core.specs.declared.next_step.NextStep.{NextStep}
use Rattle.workers.specs.declared.book.share.Share.{Share}
use Rattle.workers.specs.Book.{BookState, IsMade, IsSpent, KeepsLimit, counts_of_share, zero_counts}
use Rattle.workers.specs.Work.{IsBookOf}

-- one more step, which is not an asking
abbrev AddsStep : Counts → Counts → Type 0
AddsStep before after = (after.steps ≡ before.steps + 1) × (after.asks ≡ before.asks)

-- what a step adds
abbrev Adds : Step → Counts → Counts → Type 0
Adds Ask before after = (after.steps ≡ before.steps + 1) × (after.asks ≡ before.asks + 1)
Adds step before after = AddsStep before after

adds_step : (step : Step) (before after : Counts) → step ≢ Ask → Adds step before after → AddsStep before after
adds_step Ask before after not h = absurd (not refl)
adds_step step before after not h = h

-- ---- one step

module _ (s : State) (w : ℕ) (w_in : w < length s.counts) where
  -- the worker's own counts after a step that leaves the counts is counted
  own : (add : Counts → Counts) (t : State) → t.counts ≡ s.counts → get_or (counted add w t).counts w no_counts ≡ add (get_or s.counts w no_counts)
  own add t same =
      subst (λ c. get_or (set c w (add (get_or c w no_counts))) w no_counts ≡ add (get_or s.counts w no_counts)) (sym same)
      (get_or-set_same s.counts w (add (get_or s.counts w no_counts)) no_counts w_in)

  abbrev FromOwn : (Counts → Counts → Type 0) → State → Type 0
  FromOwn What t = What (get_or s.counts w no_counts) (get_or t.counts w no_counts)

  one_asking_more : (t : State) → t.counts ≡ s.counts → FromOwn (Adds Ask) (counted one_asking w t)
  one_asking_more t same = let e = own one_asking t same in (ap (λ (c : Counts). c.steps) e, ap (λ (c : Counts). c.asks) e)

  one_step_more : (t : State) → t.counts ≡ s.counts → FromOwn AddsStep (counted one_step w t)
  one_step_more t same = let e = own one_step t same in (ap (λ (c : Counts). c.steps) e, ap (λ (c : Counts). c.asks) e)

  asking : FromOwn (Adds Ask) (counted one_asking w (after_ask w s))
  asking = cond_both (is_done s) _ _ (λ t. FromOwn (Adds Ask) (counted one_asking w t))
      (λ _. one_asking_more (count_done w s) refl)
      (λ _. cond_both (nat_lt s.validation s.execution) _ _ (λ t. FromOwn (Adds Ask) (counted one_asking w t))
      (λ _. one_asking_more (ask_validation w s) (ask_validation_silent w s).0)
      (λ _. cond_both (nat_lt s.execution (length s.calls)) _ _ (λ t. FromOwn (Adds Ask) (counted one_asking w t))
      (λ _. one_asking_more (ask_execution w s) (ask_execution_silent w s).0)
      (λ _. one_asking_more s refl)))

  -- a step that is made
  made_adds : (block : Block) (step : Step) (t : State) → cases.IsMade block w s step t → FromOwn (Adds step) t
  made_adds block step t (by_ask at) = asking
  made_adds block step t (by_read i answers key at) = one_step_more (after_read_key block.base key w i answers s) refl
  made_adds block step t (by_park i b answers at below) = one_step_more (after_park w i b s) (parked_silent w i b s).0
  made_adds block step t (by_record i answers receipt at bears below) =
      let e = own one_execution (after_record w i answers receipt s) refl in (ap (λ (c : Counts). c.steps) e, ap (λ (c : Counts). c.asks) e)
  made_adds block step t (by_move i key keys new at) = one_step_more (after_move_key w i key keys new s) refl
  made_adds block step t (by_finish i new at) = one_step_more (after_finish_execution w i new s) (executed_silent w i new s).0
  made_adds block step t (by_check i n left at) = one_step_more (after_check_read w i n left s) (checked_silent w i n left s).0
  made_adds block step t (by_decide i n left failed at last) =
      let e = own one_validation (after_decide w i n failed s) (decided_silent w i n failed s).0 in (ap (λ (c : Counts). c.steps) e, ap (λ (c : Counts). c.asks) e)
  made_adds block step t (by_mark i key keys at) = one_step_more (after_mark_estimate w i key keys s) refl
  made_adds block step t (by_abort i at) = one_step_more (after_finish_abort w i s) (aborted_silent w i s).0

-- ---- a limit

asking_keeps : (limit : Option ℕ) (before after : Counts) → Adds Ask before after → KeepsLimit limit before → KeepsLimit limit after
asking_keeps None before after adds kept = tt
asking_keeps (Some limit) before after adds kept = let step = adds.0 in let ask = adds.1 in omega (arith, step, ask, kept)

-- a worker that may make a step keeps its limit by that
below_limit : (limit : ℕ) (before after : Counts) → AddsStep before after → (limit + before.asks ≤ before.steps → ⊥) → after.steps ≤ limit + after.asks
below_limit limit before after adds below = let step = adds.0 in let ask = adds.1 in omega (arith, step, ask, below)

step_keeps : (limit : Option ℕ) (before after : Counts) → AddsStep before after → (IsSpent limit before → ⊥) → KeepsLimit limit after
step_keeps None before after adds on = tt
step_keeps (Some limit) before after adds on = below_limit limit before after adds (λ spent. on (inr spent))

-- ---- a step call that is answered Ok

module _ (job : Job) (limit : Option ℕ) (before after : BookState) (share left : Share) (of : IsBookOf job limit before) where
  made_by_share : (owed : NextStep) (step : Step) → IsMade owed step before after share left → Adds step share.counts left.counts
  made_by_share owed step is =
      let b = before.core in
      let w = share.worker in
      let new = after.core.state in
      let size = (invariant_kept (block_in b) (length b.state.tasks) b.state of.reached).sized.counts in
      let within = is.owes.agrees.within in
      let turn = made_adds b.state w (omega (arith, size, within)) (block_in b) step new (made (block_in b) w b.state new step is.makes.0) in
      let same : left.counts ≡ get_or new.counts w no_counts = is.agrees.counts ∙ ap (λ v. get_or new.counts v no_counts) is.worker in
      subst (λ (c : Counts). Adds step c left.counts) (sym is.owes.agrees.counts)
      (subst (λ (c : Counts). Adds step (get_or b.state.counts w no_counts) c) (sym same) turn)

  pub asking_made : (owed : NextStep) → IsMade owed Ask before after share left → KeepsLimit limit share.counts → KeepsLimit limit left.counts
  asking_made owed is kept = asking_keeps limit share.counts left.counts (made_by_share owed Ask is) kept

  pub step_made : (owed : NextStep) (step : Step) → step ≢ Ask → IsMade owed step before after share left → (IsSpent before.work_limit share.counts → ⊥) → KeepsLimit limit left.counts
  step_made owed step not is on =
      step_keeps limit share.counts left.counts (adds_step step share.counts left.counts not (made_by_share owed step is)) (subst (λ own. IsSpent own share.counts → ⊥) of.same_limit on)

-- ---- shares

none_kept : (limit : Option ℕ) → KeepsLimit limit no_counts
none_kept None = tt
none_kept (Some limit) = omega arith

-- a share of a worker that has done nothing yet keeps each limit
pub new_keeps : (limit : Option ℕ) (worker : ℕ) (share : Share) → counts_of_share share ≡ zero_counts worker → KeepsLimit limit share.counts
new_keeps limit worker share new = subst (KeepsLimit limit) (sym (ap (λ told. told.counts) new)) (none_kept limit)
