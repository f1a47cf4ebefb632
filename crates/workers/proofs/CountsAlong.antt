-- What workers count along a list of steps.
use Rattle.std.proofs.Common.{◌≡◌, ◌<◌, ◌≤◌, ◌+◌, nat_lt, ℕ, List, [], ◌∷◌, cond, length, get_or, set, Some, arith, refl, sym, subst}
use Rattle.std.specs.List.{AllByRecursion, count_by, sum_by}
use Rattle.std.proofs.lemmas.Bool.{cond_both}
use Rattle.std.proofs.lemmas.List.Sums.{sum_by-cons, sum_by-set}
use Rattle.std.proofs.lemmas.List.Folds.{sum_by-replicate}
use Rattle.rv_ledger.specs.declared.outcome.Counts.{Counts}
use Rattle.stm_state.specs.State.{State, is_done, no_counts, start_state}
use Rattle.stm_state.specs.Steps.{Block, Step, after_ask, after_decide, after_finish_abort, after_finish_execution, after_check_read, after_mark_estimate, after_move_key, after_park, after_read_key, after_record, ask_execution, ask_validation, count_done, counted, one_asking, one_execution, one_step, one_validation}
use Rattle.stm_state.specs.Done.{Reached, started, stepped}
use Rattle.stm_state.specs.Walk.{LeadsTo, walk}
use Rattle.stm_state.proofs.StepsByTask.{IsMade, by_ask, by_read, by_park, by_record, by_move, by_finish, by_check, by_decide, by_mark, by_abort, made}
use Rattle.stm_state.proofs.Counted.{aborted_silent, ask_execution_silent, ask_validation_silent, checked_silent, decided_silent, executed_silent, parked_silent}
use Rattle.stm_state.proofs.Walks.{walk_first, walk_none}
use Rattle.stm_state.proofs.InvariantKept.{invariant_kept}
use Rattle.stm_core.specs.CoreState.{is_read}
use Rattle.always_ends.specs.Work.{work_along, work_but_reads, work_of_list}
use Rattle.always_ends.proofs.WorkAlong.{works_first}

-- all steps that workers counted, and all askings
abbrev all_steps : List Counts → ℕ
all_steps counts = sum_by (λ did. did.steps) counts

abbrev all_asks : List Counts → ℕ
all_asks counts = sum_by (λ did. did.asks) counts

abbrev reads_in : List (ℕ × Step) → ℕ
reads_in entries = count_by (λ entry. is_read entry.1) entries

-- from one state to another there are at most this many more steps that are not askings
abbrev CountsMore : ℕ → State → State → Type 0
CountsMore more s t = all_steps t.counts + all_asks s.counts ≤ all_steps s.counts + all_asks t.counts + more

-- ---- one step

module _ (s : State) (w : ℕ) (w_in : w < length s.counts) where
  -- a step that leaves the counts is counted
  added : (add : Counts → Counts) (more : ℕ) (t : State) → ((did : Counts) → (add did).steps + did.asks ≡ did.steps + (add did).asks + more) → t.counts ≡ s.counts → CountsMore more s (counted add w t)
  added add more t adds same =
      let own = get_or s.counts w no_counts in
      let steps = sum_by-set (λ (did : Counts). did.steps) s.counts w (add own) no_counts w_in in
      let asks = sum_by-set (λ (did : Counts). did.asks) s.counts w (add own) no_counts w_in in
      let one = adds own in
      subst (λ c. all_steps (set c w (add (get_or c w no_counts))) + all_asks s.counts ≤ all_steps s.counts + all_asks (set c w (add (get_or c w no_counts))) + more) (sym same) (omega (arith, steps, asks, one))

  asked_adds : (t : State) → t.counts ≡ s.counts → CountsMore 0 s (counted one_asking w t)
  asked_adds t same = added one_asking 0 t (λ did. omega arith) same

  step_adds : (t : State) → t.counts ≡ s.counts → CountsMore 1 s (counted one_step w t)
  step_adds t same = added one_step 1 t (λ did. omega arith) same

  asking_adds : CountsMore 0 s (counted one_asking w (after_ask w s))
  asking_adds = cond_both (is_done s) _ _ (λ t. CountsMore 0 s (counted one_asking w t))
      (λ _. asked_adds (count_done w s) refl)
      (λ _. cond_both (nat_lt s.validation s.execution) _ _ (λ t. CountsMore 0 s (counted one_asking w t))
      (λ _. asked_adds (ask_validation w s) (ask_validation_silent w s).0)
      (λ _. cond_both (nat_lt s.execution (length s.calls)) _ _ (λ t. CountsMore 0 s (counted one_asking w t))
      (λ _. asked_adds (ask_execution w s) (ask_execution_silent w s).0)
      (λ _. asked_adds s refl)))

  -- a step that is made is an asking, a read, or work
  made_adds : (block : Block) (step : Step) (t : State) → IsMade block w s step t → CountsMore (cond (is_read step) 1 0 + work_but_reads step s) s t
  made_adds block step t (by_ask at) = let asked = asking_adds in omega (arith, asked)
  made_adds block step t (by_read i answers key at) = step_adds (after_read_key block.base key w i answers s) refl
  made_adds block step t (by_park i b answers at below) = step_adds (after_park w i b s) (parked_silent w i b s).0
  made_adds block step t (by_record i answers receipt at bears below) = added one_execution 1 (after_record w i answers receipt s) (λ did. omega arith) refl
  made_adds block step t (by_move i key keys new at) = step_adds (after_move_key w i key keys new s) refl
  made_adds block step t (by_finish i new at) = step_adds (after_finish_execution w i new s) (executed_silent w i new s).0
  made_adds block step t (by_check i n left at) = step_adds (after_check_read w i n left s) (checked_silent w i n left s).0
  made_adds block step t (by_decide i n left failed at last) = added one_validation 1 (after_decide w i n failed s) (λ did. omega arith) (decided_silent w i n failed s).0
  made_adds block step t (by_mark i key keys at) = step_adds (after_mark_estimate w i key keys s) refl
  made_adds block step t (by_abort i at) = step_adds (after_finish_abort w i s) (aborted_silent w i s).0

-- ---- a list

module _ (block : Block) (workers : ℕ) where
  counts_on : (entries : List (ℕ × Step)) (s t : State) → Reached block workers s → AllByRecursion (λ entry. entry.0 < workers) entries → walk block entries s ≡ Some t
      → CountsMore (reads_in entries + work_along block entries s) s t
  counts_on [] s t reached within k = subst (λ u. CountsMore (reads_in [] + work_along block [] s) s u) (walk_none block s t k) (omega arith)
  counts_on (entry ∷ entries) s t reached within k =
      let first = walk_first block entry entries s t k in
      let u = first.state in
      let size = (invariant_kept block workers s reached).sized.counts in
      let here = made_adds s entry.0 (omega (arith, size, within.0)) block entry.1 u (made block entry.0 s u entry.1 first.step) in
      let rest = counts_on entries u t (stepped entry.0 entry.1 reached within.0 first.step) within.1 first.rest in
      let works = works_first block entry entries s u first.step in
      let reads = sum_by-cons (λ (e : ℕ × Step). cond (is_read e.1) 1 0) entry entries in
      omega (arith, here, rest, works, reads)

-- all steps of all workers are no more than their askings, the reads of the list and its work
pub steps_are_reads_or_work : (block : Block) (workers : ℕ) (entries : List (ℕ × Step)) (s : State) → LeadsTo block workers entries s
    → sum_by (λ did. did.steps) s.counts ≤ sum_by (λ did. did.asks) s.counts + count_by (λ entry. is_read entry.1) entries + work_of_list block workers entries
steps_are_reads_or_work block workers entries s leads =
    let more = counts_on block workers entries (start_state block.count workers) s started leads.within leads.comes in
    let steps = sum_by-replicate (λ (did : Counts). did.steps) workers no_counts in
    let asks = sum_by-replicate (λ (did : Counts). did.asks) workers no_counts in
    omega (arith, more, steps, asks)
