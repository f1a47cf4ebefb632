-- What the versions and the places are when slots are made and written into.
use Rattle.std.proofs.Common.{◌≡◌, ◌<◌, ◌⊎◌, ◌++◌, ℕ, suc, zero, Bool, true, false, cond, List, [], ◌∷◌, length, Option, None, Some, is_some, IsSome, arith, refl, sym, ap, subst, ◌∙◌, inl, inr, slice_get, get_or, Result, Ok, Err, OnErr}
use Rattle.std.specs.List.{All}
use Rattle.std.specs.BTreeMap.{is_at}
use Rattle.std.specs.FinMap.{get, same_map}
use Rattle.std.specs.FinSet.{contains}
use Rattle.std.specs.Cmp.{eq_by_cmp_equiv}
use Rattle.std.proofs.lemmas.List.{get_or_default}
use Rattle.std.specs.Option.{option_map, option_and_then}
use Rattle.rv_ledger.proofs.Positions.{slice_get_before, slice_get_last}
use Rattle.version_arena.specs.ArenaState.{Record}
use Rattle.mvmap.specs.Versions.{Entry, Stands, Place, changed, place_cmp}
use Rattle.mvmap.specs.Table.{Table}
use Rattle.mvmap.specs.Slots.{SlotsByPlace, slot_at, entry_of, versions_of, places_of, AreSlotsPlaced, AreSlotsOpened}
use Rattle.mvmap.specs.declared.slot.Slot.{Slot}
use Rattle.mvmap.specs.declared.slot.Slot.TheVariants as slot
use Rattle.mvmap.proofs.Places.{place_total, exact_places, same_place, get_changed, get_versions, has_place, same_versions, same_places}

-- ---- slots that were made

-- what holds of all elements holds of one that was read
pub all_at : {X : Type 0} (P : X → Type 0) (xs : List X) (k : ℕ) (x : X) → All P xs → k < length xs → x ≡ get_or xs k x → P x
all_at P xs k x all l is = subst P (sym is) (all k x l)

-- and what holds of one that was read holds of the element at its place, whatever the default is
pub at_place : {X : Type 0} (P : X → Type 0) (xs : List X) (k j : ℕ) (x d : X) → P x → k < length xs → x ≡ get_or xs k x → j ≡ k → P (get_or xs j d)
at_place P xs k j x d holds l is same = subst P (is ∙ get_or_default xs k x d l ∙ ap (λ n. get_or xs n d) (sym same)) holds

-- if slots were made, there is new room at no other place
pub opened_places : (es fs : SlotsByPlace) (q : Place) → slot_at fs q ≡ slot_at es q → contains (places_of fs) q ≡ contains (places_of es) q
opened_places es fs q same = has_place fs q ∙ ap is_some same ∙ sym (has_place es q)

-- one after the other
pub opened_then : (es fs gs : SlotsByPlace) → AreSlotsOpened es fs → AreSlotsOpened fs gs → AreSlotsOpened es gs
opened_then es fs gs h k = λ q. elim (k q) [
  | inl same ↦ elim (h q) [ inl before ↦ inl (same ∙ before) | inr made ↦ inr (made.0, same ∙ made.1) ]
  | inr made ↦ elim (h q) [ inl before ↦ inr (sym before ∙ made.0, made.1) | inr both ↦ let none : slot_at fs q ≡ None = made.0 in let some : slot_at fs q ≡ Some slot.Vacant = both.1 in cc ]
]

same_entry : (rs : List Record) (es fs : SlotsByPlace) (q : Place) → (slot_at fs q ≡ slot_at es q) ⊎ ((slot_at es q ≡ None) × (slot_at fs q ≡ Some slot.Vacant)) → option_and_then (entry_of rs) (slot_at fs q) ≡ option_and_then (entry_of rs) (slot_at es q)
same_entry rs es fs q (inl same) = ap (option_and_then (entry_of rs)) same
same_entry rs es fs q (inr made) = ap (option_and_then (entry_of rs)) made.1 ∙ sym (ap (option_and_then (entry_of rs)) made.0)

-- the versions stay
pub opened_versions : (rs : List Record) (es fs : SlotsByPlace) → AreSlotsOpened es fs → versions_of rs fs ≡ versions_of rs es
opened_versions rs es fs h = same_versions rs rs fs es (λ q. same_entry rs es fs q (h q))

opened_some : (es fs : SlotsByPlace) (q : Place) → (slot_at fs q ≡ slot_at es q) ⊎ ((slot_at es q ≡ None) × (slot_at fs q ≡ Some slot.Vacant)) → IsSome (slot_at es q) → IsSome (slot_at fs q)
opened_some es fs q (inl same) h = subst (λ (o : Option Slot). IsSome o) (sym same) h
opened_some es fs q (inr made) h = subst (λ (o : Option Slot). IsSome o) (sym made.1) refl

-- a slot stays
pub opened_stays : (es fs : SlotsByPlace) → AreSlotsOpened es fs → (q : Place) → IsSome (slot_at es q) → IsSome (slot_at fs q)
opened_stays es fs h q = opened_some es fs q (h q)

-- a slot is there at a place
pub place_there : (es : SlotsByPlace) (q : Place) → IsSome (slot_at es q) → contains (places_of es) q ≡ true
place_there es q h = has_place es q ∙ h

-- at a place there is a slot
pub there_at_place : (es : SlotsByPlace) (q : Place) → contains (places_of es) q ≡ true → IsSome (slot_at es q)
there_at_place es q h = sym (has_place es q) ∙ h

-- ---- slots that are written into

put_nowhere_at : (es : SlotsByPlace) (p q : Place) (new : Slot) (b : Bool) → (b ≡ true → p ≡ q) → slot_at es p ≡ None → slot_at es q ≡ cond b (option_map (λ _. new) (slot_at es q)) (slot_at es q)
put_nowhere_at es p q new true same none = let here : slot_at es q ≡ None = ap (slot_at es) (sym (same refl)) ∙ none in here ∙ sym (ap (option_map (λ (_ : Slot). new)) here)
put_nowhere_at es p q new false same none = refl

-- no slot was there, and nothing is written
pub put_nowhere : (es fs : SlotsByPlace) (p : Place) (new : Slot) → slot_at es p ≡ None → fs ≡ es
    → (q : Place) → slot_at fs q ≡ cond (is_at (place_cmp p) q) (option_map (λ _. new) (slot_at es q)) (slot_at es q)
put_nowhere es fs p new none same q = ap (λ (xs : SlotsByPlace). slot_at xs q) same ∙ put_nowhere_at es p q new (is_at (place_cmp p) q) (same_place p q) none

-- an entry that is not written over stays, and one that is written over is the new one
written_entry : (rs ss : List Record) (es fs : SlotsByPlace) (p q : Place) (s : Slot) (x : Option Entry) (b : Bool) → (b ≡ true → p ≡ q)
    → slot_at fs q ≡ cond b (option_map (λ _. s) (slot_at es q)) (slot_at es q) → option_and_then (entry_of ss) (slot_at es q) ≡ option_and_then (entry_of rs) (slot_at es q)
    → entry_of ss s ≡ x → (slot_at es p ≡ None → x ≡ None) → (o : Option Slot) → slot_at es q ≡ o
    → option_and_then (entry_of ss) (slot_at fs q) ≡ cond b x (option_and_then (entry_of rs) (slot_at es q))
written_entry rs ss es fs p q s x true same h kept is none None at =
    ap (option_and_then (entry_of ss)) (h ∙ ap (option_map (λ (_ : Slot). s)) at) ∙ sym (none (ap (slot_at es) (same refl) ∙ at))
written_entry rs ss es fs p q s x true same h kept is none (Some old) at =
    ap (option_and_then (entry_of ss)) (h ∙ ap (option_map (λ (_ : Slot). s)) at) ∙ is
written_entry rs ss es fs p q s x false same h kept is none o at = ap (option_and_then (entry_of ss)) h ∙ kept

-- the versions change by what is written into a slot
pub written_versions : (rs ss : List Record) (es fs : SlotsByPlace) (p : Place) (s : Slot) (x : Option Entry)
    → ((q : Place) → slot_at fs q ≡ cond (is_at (place_cmp p) q) (option_map (λ _. s) (slot_at es q)) (slot_at es q))
    → ((q : Place) → option_and_then (entry_of ss) (slot_at es q) ≡ option_and_then (entry_of rs) (slot_at es q))
    → entry_of ss s ≡ x → (slot_at es p ≡ None → x ≡ None)
    → versions_of ss fs ≡ changed (versions_of rs es) p x
written_versions rs ss es fs p s x h kept is none = same_map place_total exact_places _ _ (λ q.
    get_versions ss fs q
    ∙ written_entry rs ss es fs p q s x (is_at (place_cmp p) q) (same_place p q) (h q) (kept q) is none (slot_at es q) refl
    ∙ ap (cond (is_at (place_cmp p) q) x) (sym (get_versions rs es q))
    ∙ ap (λ b. cond b x (get (versions_of rs es) q)) ((eq_by_cmp_equiv place_total).symm p q)
    ∙ sym (get_changed (versions_of rs es) p x q))

written_there : (es : SlotsByPlace) (q : Place) (s : Slot) (b : Bool) (o : Option Slot) → is_some (cond b (option_map (λ _. s) o) o) ≡ is_some o
written_there es q s true None = refl
written_there es q s true (Some old) = refl
written_there es q s false o = refl

-- the places stay
pub written_places : (es fs : SlotsByPlace) (p : Place) (s : Slot)
    → ((q : Place) → slot_at fs q ≡ cond (is_at (place_cmp p) q) (option_map (λ _. s) (slot_at es q)) (slot_at es q)) → places_of fs ≡ places_of es
written_places es fs p s h = same_places fs es (λ q. ap is_some (h q) ∙ written_there es q s (is_at (place_cmp p) q) (slot_at es q))

kept_entry : (rs : List Record) (r : Record) (o : Option Slot) → ((i : ℕ) → o ≡ Some (slot.Placed i) → i < length rs) → option_and_then (entry_of (rs ++ r ∷ [])) o ≡ option_and_then (entry_of rs) o
kept_entry rs r None h = refl
kept_entry rs r (Some slot.Vacant) h = refl
kept_entry rs r (Some slot.Estimate) h = refl
kept_entry rs r (Some (slot.Placed id)) h = ap (option_map (λ (x : Record). Stands x.incarnation x.change)) (slice_get_before rs r id (h id refl))

-- a further record changes no entry
pub kept_entries : (rs : List Record) (r : Record) (es : SlotsByPlace) → AreSlotsPlaced rs es → (q : Place) → option_and_then (entry_of (rs ++ r ∷ [])) (slot_at es q) ≡ option_and_then (entry_of rs) (slot_at es q)
kept_entries rs r es old q = kept_entry rs r (slot_at es q) (λ i e. old q i e)

-- a table by its parts
pub table_is : (s t : Table) → s.versions ≡ t.versions → s.places ≡ t.places → s.arena ≡ t.arena → s ≡ t
table_is s t v p h = λ i. record { versions = v i; places = p i; arena = h i }

-- a slot that is there isn't missing
pub there_not_none : {X Y : Type 0} (o : Option X) (x : Option Y) → IsSome o → o ≡ None → x ≡ None
there_not_none None x h e = cc
there_not_none (Some y) x h e = cc

-- the record that was added last, by its slot
pub entry_of_last : (rs : List Record) (r : Record) (id : ℕ) → id ≡ length rs → entry_of (rs ++ r ∷ []) (slot.Placed id) ≡ Some (Stands r.incarnation r.change)
entry_of_last rs r id e = ap (option_map (λ (x : Record). Stands x.incarnation x.change)) (ap (slice_get (rs ++ r ∷ [])) e ∙ slice_get_last rs r)

some_within : (rs : List Record) (i : ℕ) → i < length rs → IsSome (slice_get rs i)
some_within [] i l = absurd (omega arith)
some_within (x ∷ rs) zero l = refl
some_within (x ∷ rs) (suc i) l = some_within rs i (omega arith)

some_if_mapped : {X Y : Type 0} (f : X → Y) (o : Option X) → IsSome (option_map f o) → IsSome o
some_if_mapped f None h = h
some_if_mapped f (Some x) h = refl

-- what is lent of a record that is there is something
pub lent_within : {X : Type 0} (f : X → Record) (rs : List Record) (o : Option X) (i : ℕ) → option_map f o ≡ slice_get rs i → i < length rs → IsSome o
lent_within f rs o i h l = some_if_mapped f o (subst (λ (x : Option Record). IsSome x) (sym h) (some_within rs i l))

-- what holds anyway holds whatever was refused
pub on_err : {X E : Type 0} (r : Result X E) (P : Type 0) → P → OnErr r P
on_err (Ok x) P p = tt
on_err (Err e) P p = p
