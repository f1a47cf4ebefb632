-- The order of places, and the slots at them.
use Rattle.std.proofs.Common.{◌≡◌, ◌<◌, ◌⊎◌, ◌||◌, ℕ, Bool, true, false, cond, List, [], ◌∷◌, Option, None, Some, is_some, refl, sym, ap, ◌∙◌, inl, inr}
use Rattle.std.specs.Ordering.{nat_cmp, ordering_then, is_eq, eq_by_cmp}
use Rattle.std.specs.declared.cmp.Ordering.TheVariants.{Less}
use Rattle.std.specs.Cmp.{IsTotalOrder, nat_cmp_total, ranked, tied_itself}
use Rattle.std.specs.Cmp.Lexicographic.{nat_list_cmp_total}
use Rattle.std.specs.Map.{keys_of}
use Rattle.std.specs.List.{list_any}
use Rattle.std.specs.FinMap.{get, get-empty, get-insert, get-remove, same_map}
use Rattle.std.specs.FinSet.{contains, contains-from_list, same_set}
use Rattle.std.specs.Option.{option_and_then}
use Rattle.std.proofs.lemmas.Cmp.{by_ranked, on_total, then_total}
use Rattle.std.proofs.lemmas.Map.Lookups.{CmpEqualImpliesEq, exact_pairs, exact_bytes, exact_unsigned}
use Rattle.std.proofs.lemmas.Map.Views.{tells_apart}
use Rattle.rv_ledger.specs.Key.{key_cmp}
use Rattle.version_arena.specs.ArenaState.{Record}
use Rattle.mvmap.specs.Versions.{Entry, Place, Versions, changed, place_cmp}
use Rattle.mvmap.specs.Slots.{SlotsByPlace, slot_at, entry_of, versions_of, places_of}

-- places are in a total order
pub place_total : IsTotalOrder place_cmp
place_total = then_total (on_total (λ (p : Place). p.0) nat_list_cmp_total) (on_total (λ (p : Place). p.1) nat_cmp_total)

-- places that compare as equal are the same
pub exact_places : CmpEqualImpliesEq place_cmp
exact_places p q h = exact_pairs key_cmp nat_cmp exact_bytes exact_unsigned p q h

-- places that a test finds equal are the same
pub same_place : (p q : Place) → eq_by_cmp place_cmp p q ≡ true → p ≡ q
same_place p q h = tells_apart exact_places p q h

-- a test finds a place equal to itself
pub place_itself : (p : Place) → eq_by_cmp place_cmp p p ≡ true
place_itself p = ap is_eq (tied_itself place_total p)

-- at one key places are in the order of their writers
pub by_writer : (key : List ℕ) (a b : ℕ) → place_cmp (key, a) (key, b) ≡ nat_cmp a b
by_writer key a b = ap (λ r. ordering_then r (nat_cmp a b)) (tied_itself nat_list_cmp_total key)

-- how two numbers compare
pub is_less : (a b : ℕ) → nat_cmp a b ≡ Less → a < b
is_less a b h = by_ranked (a < b) (a ≡ b) (b < a) (nat_cmp a b) (ranked a b (nat_cmp a b) refl) (λ _ p. p) (λ e _. cc) (λ e _. cc)

-- what a changed map has at a place
pub get_changed : (v : Versions) (p : Place) (x : Option Entry) (q : Place) → get (changed v p x) q ≡ cond (eq_by_cmp place_cmp q p) x (get v q)
get_changed v p None q = get-remove place_total v p q
get_changed v p (Some e) q = get-insert place_total v p e q

tested : (q p : Place) (x o n : Option Entry) (b : Bool) → (b ≡ true → q ≡ p) → n ≡ cond b x o → (n ≡ o) ⊎ (q ≡ p)
tested q p x o n true same h = inr (same refl)
tested q p x o n false same h = inl h

-- a changed map is as before at another place
pub get_other : (v : Versions) (p : Place) (x : Option Entry) (q : Place) → (get (changed v p x) q ≡ get v q) ⊎ (q ≡ p)
get_other v p x q = tested q p x (get v q) (get (changed v p x) q) (eq_by_cmp place_cmp q p) (same_place q p) (get_changed v p x q)

pushed : {X Y : Type 0} (f : X → Option Y) (b : Bool) (x : X) (o : Option X) → cond b (f x) (option_and_then f o) ≡ option_and_then f (cond b (Some x) o)
pushed f true x o = refl
pushed f false x o = refl

-- the entry at a place among the versions that slots stand for
pub get_versions : (rs : List Record) (es : SlotsByPlace) (q : Place) → get (versions_of rs es) q ≡ option_and_then (entry_of rs) (slot_at es q)
get_versions rs [] q = get-empty place_cmp q
get_versions rs (e ∷ es) q =
    get_changed (versions_of rs es) e.0 (entry_of rs e.1) q
    ∙ ap (cond (eq_by_cmp place_cmp q e.0) (entry_of rs e.1)) (get_versions rs es q)
    ∙ pushed (entry_of rs) (eq_by_cmp place_cmp q e.0) e.1 (slot_at es q)

or_found : {X : Type 0} (b : Bool) (x : X) (o : Option X) → (b || is_some o) ≡ is_some (cond b (Some x) o)
or_found true x o = refl
or_found false x o = refl

any_slot : (es : SlotsByPlace) (q : Place) → list_any (eq_by_cmp place_cmp q) (keys_of es) ≡ is_some (slot_at es q)
any_slot [] q = refl
any_slot (e ∷ es) q = ap (λ b. eq_by_cmp place_cmp q e.0 || b) (any_slot es q) ∙ or_found (eq_by_cmp place_cmp q e.0) e.1 (slot_at es q)

-- the places include a place exactly if it has a slot
pub has_place : (es : SlotsByPlace) (q : Place) → contains (places_of es) q ≡ is_some (slot_at es q)
has_place es q = contains-from_list place_total (keys_of es) q ∙ any_slot es q

-- slots that stand for the same entries stand for the same versions
pub same_versions : (rs ss : List Record) (es fs : SlotsByPlace) → ((q : Place) → option_and_then (entry_of rs) (slot_at es q) ≡ option_and_then (entry_of ss) (slot_at fs q)) → versions_of rs es ≡ versions_of ss fs
same_versions rs ss es fs h = same_map place_total exact_places _ _ (λ q. get_versions rs es q ∙ h q ∙ sym (get_versions ss fs q))

-- slots at the same places have the same places
pub same_places : (es fs : SlotsByPlace) → ((q : Place) → is_some (slot_at es q) ≡ is_some (slot_at fs q)) → places_of es ≡ places_of fs
same_places es fs h = same_set place_total exact_places _ _ (λ q. has_place es q ∙ h q ∙ sym (has_place fs q))
