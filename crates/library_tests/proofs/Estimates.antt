-- Maps without an estimate.
use Rattle.std.proofs.Common.{◌≡◌, ℕ, Option, Some, None, Bool, true, false, cond, sym, ap, ◌∙◌}
use Rattle.std.specs.FinMap.{empty, get, get-empty, get-insert, insert}
use Rattle.std.specs.Ordering.{eq_by_cmp}
use Rattle.rv_ledger.specs.Change.{ContentChange}
use Rattle.mvmap.specs.Versions.{Entry, Stands, Estimate, Versions, Place, HasNoEstimate, place_cmp}
use Rattle.mvmap.proofs.Places.{place_total}

none_not_some : {X : Type 0} (x : X) → None ≡ Some x → ⊥
none_not_some x h = cc

-- a map without versions has no estimate
pub no_estimate_empty : (v : Versions) → v ≡ empty → HasNoEstimate v
no_estimate_empty v e = λ q h. none_not_some Estimate (sym (get-empty place_cmp q) ∙ sym (ap (λ (u : Versions). get u q) e) ∙ h)

not_estimate : (b : Bool) (o : Option Entry) (n : ℕ) (c : ContentChange) → (o ≡ Some Estimate → ⊥) → cond b (Some (Stands n c)) o ≡ Some Estimate → ⊥
not_estimate true o n c h e = cc
not_estimate false o n c h e = h e

-- a version that is set makes no estimate
pub no_estimate_set : (v u w : Versions) (p : Place) (n : ℕ) (c : ContentChange) → u ≡ v → w ≡ insert u p (Stands n c) → HasNoEstimate v → HasNoEstimate w
no_estimate_set v u w p n c e h none = λ q est.
    not_estimate (eq_by_cmp place_cmp q p) (get u q) n c (λ old. none q (sym (ap (λ (m : Versions). get m q) e) ∙ old))
    (sym (get-insert place_total u p (Stands n c) q) ∙ sym (ap (λ (m : Versions). get m q) h) ∙ est)
