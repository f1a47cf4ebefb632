-- The work along a list of steps.
use Rattle.std.proofs.Common.{◌≡◌, ◌<◌, ◌+◌, ◌*◌, ◌/◌, ℕ, List, [], ◌∷◌, length, Some, Ok, arith, ap, refl, subst}
use Rattle.std.specs.List.{AllByRecursion}
use Rattle.std.proofs.Math.Nat.{mul-le-mul_right}
use Rattle.stm_state.specs.State.{State, start_state}
use Rattle.stm_state.specs.Steps.{Block, Step, worker_step}
use Rattle.stm_state.specs.Done.{block_of}
use Rattle.stm_state.specs.Walk.{walk}
use Rattle.stm_state.proofs.Walks.{reached_by_list, walk_first, walk_none}
use Rattle.always_ends.specs.Work.{WorksButReadsTo, at_start, went_on, incarnations, most_incarnations, work_after, work_along, work_but_reads, work_by_incarnation}
use Rattle.always_ends.specs.Laws.{WorkOfListsIsBounded}
use Rattle.always_ends.proofs.Sums.{le_through}
use Rattle.always_ends.proofs.Powers.{all_incarnations_are_bounded}
use Rattle.always_ends.proofs.WorkOfLists.{small_job, work_but_reads_is_bounded}

module _ (block : Block) where
  -- no step is no work, and a step that is made works before the rest
  pub works_none : (s : State) → work_along block [] s ≡ 0
  unfolding work_along
  works_none s = refl

  pub works_first : (entry : ℕ × Step) (entries : List (ℕ × Step)) (s t : State) → worker_step block entry.0 entry.1 s ≡ Some (Ok t)
      → work_along block (entry ∷ entries) s ≡ work_but_reads entry.1 s + work_along block entries t
  unfolding work_along
  works_first entry entries s t k = ap (λ r. work_but_reads entry.1 s + work_after (λ u. work_along block entries u) r) k

  -- the work along a list is counted on top of what came before it
  works_on : (workers : ℕ) (entries : List (ℕ × Step)) (work : ℕ) (s t : State) → WorksButReadsTo block workers work s → AllByRecursion (λ entry. entry.0 < workers) entries
      → walk block entries s ≡ Some t → WorksButReadsTo block workers (work + work_along block entries s) t
  works_on workers [] work s t h within k =
      let none = works_none s in
      let same : work ≡ work + work_along block [] s = omega (arith, none) in
      subst (λ n. WorksButReadsTo block workers n t) same (subst (WorksButReadsTo block workers work) (walk_none block s t k) h)
  works_on workers (entry ∷ entries) work s t h within k =
      let first = walk_first block entry entries s t k in
      let split = works_first entry entries s first.state first.step in
      let same : work + work_but_reads entry.1 s + work_along block entries first.state ≡ work + work_along block (entry ∷ entries) s = omega (arith, split) in
      subst (λ n. WorksButReadsTo block workers n t) same
      (works_on workers entries (work + work_but_reads entry.1 s) first.state t (went_on entry.0 entry.1 h within.0 first.step) within.1 first.rest)

pub work_of_lists_is_bounded : WorkOfListsIsBounded
work_of_lists_is_bounded calls store workers gas entries s most leads =
    let block = block_of calls store in
    let small = small_job calls store workers gas most in
    let work = work_along block entries (start_state (length calls) workers) in
    let none : 0 + work ≡ work = omega arith in
    let works = subst (λ n. WorksButReadsTo block workers n s) none (works_on block workers entries 0 (start_state (length calls) workers) s at_start leads.within leads.comes) in
    let by_incarnations = work_but_reads_is_bounded block workers (gas / 200 + 1) 256 work s small works in
    let few = all_incarnations_are_bounded block workers (gas / 200 + 1) 256 s small ((reached_by_list block workers s).1 (entries, leads)) in (
      by_incarnations,
      le_through work ((length calls + incarnations s) * work_by_incarnation workers (length calls) (gas / 200 + 1) 256)
          (most_incarnations (length calls) 256 * work_by_incarnation workers (length calls) (gas / 200 + 1) 256) by_incarnations (mul-le-mul_right (work_by_incarnation workers (length calls) (gas / 200 + 1) 256) few),
    )
