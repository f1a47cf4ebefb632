-- A call that does not go back from done keeps the rule of the cell.
use Rattle.std.proofs.Common.{◌≡◌, ◌≢◌, ◌≤◌, ◌<◌, length, suc, zero, arith, ap, sym, ◌∙◌, ℕ, List, [], ◌∷◌, slice_index, refl, subst, ⊎_elim, le_refl, le_trans, zero-le}
use mathlib.Core.Option.{some, some-ne-none}
use lib.ListN.{get_elem?}
use Rattle.crossbeam_utils.specs.Register.{Admits, Turns}
use Rattle.atomic_table.proofs.Lists.{at_longer, at_set, at_snoc, set_here}
use Rattle.workers.specs.DoneCell.{IsOneWay, IsSeen}

-- a new pass has seen no more than the cell shows
pub admits : Admits IsOneWay 0
admits words views kept = (
  kept.0,
  (λ pass seen at. ⊎_elim (kept.1 pass seen) (λ (e : 0 ≡ seen). subst (λ (n : ℕ). n ≤ slice_index words 0) e zero-le) (at_snoc views 0 seen pass at)),
  (λ done. let seen = kept.2 done in (seen.0, at_longer views (0 ∷ []) seen.0 1 seen.1)),
)

-- a pass that has seen something is one of the passes
within : (views : List ℕ) (pass seen : ℕ) → get_elem? views pass ≡ some seen → pass < length views
within [] pass seen at = absurd (some-ne-none seen (sym at))
within (v ∷ vs) zero seen at = omega arith
within (v ∷ vs) (suc pass) seen at = let below = within vs pass seen at in omega (arith, below)

-- a call that leaves the cell with no less, and with one of its two states, keeps the rule
pub turns : (pass seen : ℕ) (f : List ℕ → List ℕ)
    → ((words : List ℕ) → slice_index words 0 ≤ 1 → (slice_index words 0 ≤ slice_index (f words) 0) × (slice_index (f words) 0 ≤ 1))
    → Turns IsOneWay pass seen f IsSeen
turns pass seen f up words views kept at =
    let risen = up words kept.0 in
    let top : ℕ = slice_index (f words) 0 in (
      top,
      (
        risen.1,
        (λ other v e. ⊎_elim (λ (t : (other ≡ pass) × (top ≡ v)). subst (λ (n : ℕ). n ≤ top) t.1 (le_refl top)) (λ (t : (other ≢ pass) × (get_elem? views other ≡ some v)). le_trans (kept.1 other v t.1) risen.0)
            (at_set views pass other top v e)),
        (λ done. (pass, set_here views pass top (within views pass seen at) ∙ ap some done)),
      ),
      (kept.1 pass seen at, risen.1, refl),
    )

-- a look leaves the cell
pub looks : (pass seen : ℕ) → Turns IsOneWay pass seen (λ words. words) IsSeen
looks pass seen = turns pass seen (λ words. words) (λ words two. (le_refl _, two))

-- done is the last state
pub ends : (pass seen : ℕ) → Turns IsOneWay pass seen (λ _. 1 ∷ []) IsSeen
ends pass seen = turns pass seen (λ _. 1 ∷ []) (λ words two. (two, le_refl 1))
