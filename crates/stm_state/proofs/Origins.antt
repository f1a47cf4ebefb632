-- What is seen at a key, by the versions that its origin names.
use Rattle.std.proofs.Common.{◌≡◌, ℕ, true, List, [], ◌∷◌, Option, None, Some, refl, sym, ap, ◌∙◌}
use Rattle.std.specs.Cmp.Derive.{both_true}
use Rattle.rv_ledger.specs.Change.{Content, ContentChange, add, apply_change}
use Rattle.rv_ledger.specs.declared.change.Change.TheVariants as change
use Rattle.read_set.specs.Origin.{named}
use Rattle.mvmap.specs.Versions.{Entry, Stands}
use Rattle.mvmap.specs.Reading.{Visible, Base, Found, Blocked, Passed, blocker, is_origin, origin_in, value_seen, visible_below}
use Rattle.mvmap.proofs.Readings.{IsThere, seen_there}
use Rattle.stm_state.specs.Parts.{StandWith, apply_all}
use Rattle.stm_state.proofs.Tests.{equal_itself}

-- the versions that are seen stand, each with its change
changes_in : (e : ℕ → Option Entry) (i : ℕ) (seen : Visible) → IsThere e i seen → (changes : List ContentChange) × StandWith e (named (origin_in seen)) changes
changes_in e i Base h = ([], tt)
changes_in e i (Found w n content) h = (h.1.0 ∷ [], (h.1.1, tt))
changes_in e i (Blocked w) h = ([], tt)
changes_in e i (Passed w n amount below) h = let rest = changes_in e i below h.2 in (change.Sum amount ∷ rest.0, (h.1, rest.1))

-- the value seen over a base is what these changes make of the base
made_in : (e : ℕ → Option Entry) (i : ℕ) (seen : Visible) (base : Content) → IsThere e i seen → (changes : List ContentChange) → StandWith e (named (origin_in seen)) changes → value_seen base seen ≡ apply_all changes base
made_in e i Base base h [] stand = refl
made_in e i Base base h (c ∷ changes) stand = absurd stand
made_in e i (Found w n content) base h [] stand = absurd stand
made_in e i (Found w n content) base h (c ∷ []) stand =
    let here : e w ≡ Some (Stands n h.1.0) = h.1.1 in let told : e w ≡ Some (Stands n c) = stand.0 in let same : h.1.0 ≡ c = cc in
    sym (h.1.2 base) ∙ ap (λ d. apply_change d base) same
made_in e i (Found w n content) base h (c ∷ d ∷ changes) stand = absurd stand.1
made_in e i (Blocked w) base h [] stand = refl
made_in e i (Blocked w) base h (c ∷ changes) stand = absurd stand
made_in e i (Passed w n amount below) base h [] stand = absurd stand
made_in e i (Passed w n amount below) base h (c ∷ changes) stand =
    let here : e w ≡ Some (Stands n (change.Sum amount)) = h.1 in let told : e w ≡ Some (Stands n c) = stand.0 in let same : change.Sum amount ≡ c = cc in
    ap (λ x. Some (add x amount)) (made_in e i below base h.2 changes stand.1) ∙ ap (λ d. apply_change d (apply_all changes base)) same

module _ (e : ℕ → Option Entry) (i : ℕ) where
  pub seen_changes : (changes : List ContentChange) × StandWith e (named (origin_in (visible_below e i))) changes
  seen_changes = changes_in e i (visible_below e i) (seen_there e i)

  pub made_of_changes : (base : Content) (changes : List ContentChange) → StandWith e (named (origin_in (visible_below e i))) changes → value_seen base (visible_below e i) ≡ apply_all changes base
  made_of_changes base changes stand = made_in e i (visible_below e i) base (seen_there e i) changes stand

-- if no estimate is met, what is seen has its own origin
pub own_origin : (seen : Visible) → blocker seen ≡ None → is_origin (origin_in seen) seen ≡ true
own_origin Base h = refl
own_origin (Found w n content) h = both_true (equal_itself w) (equal_itself n)
own_origin (Blocked w) h = cc
own_origin (Passed w n amount below) h = both_true (both_true (equal_itself w) (equal_itself n)) (own_origin below h)
