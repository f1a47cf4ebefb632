-- What a storage holds once the versions are applied to it in the order of their places.
use Rattle.std.proofs.Common.{◌≡◌, ◌<◌, ◌≤◌, ◌≢◌, ◌⊎◌, ℕ, suc, zero, Bool, true, false, cond, List, [], ◌∷◌, Option, None, Some, IsSome, Result, Ok, Err, OnOk, arith, refl, sym, ap, subst, ◌∙◌, inl, inr}
use Rattle.std.specs.declared.cmp.Ordering.TheVariants.{Less, Equal}
use Rattle.std.specs.Ordering.{eq_by_cmp, is_eq}
use Rattle.std.specs.Cmp.{tied_itself}
use Rattle.std.specs.Cmp.Lexicographic.{nat_list_cmp_total}
use Rattle.mvmap.specs.declared.slot.Slot.{Slot}
use Rattle.std.specs.List.{AllByRecursion}
use Rattle.std.specs.List.Sorted.{IsStrictlySortedBy}
use Rattle.std.specs.Map.{keys_of}
use Rattle.std.specs.Option.{option_and_then}
use Rattle.std.proofs.lemmas.Bool.{cases_eq}
use Rattle.std.proofs.lemmas.Map.Lookups.{exact_bytes}
use Rattle.std.proofs.lemmas.Map.Views.{tells_apart}
use Rattle.rv_ledger.specs.Key.{key_cmp}
use Rattle.rv_ledger.specs.Change.{Content, ContentChange, add, apply_change}
use Rattle.rv_ledger.specs.declared.change.Change.TheVariants as change
use Rattle.version_arena.specs.ArenaState.{Record}
use Rattle.mvmap.specs.Versions.{Entry, Stands, Estimate, Place, Versions, HasNoEstimate, entry_at, place_cmp}
use Rattle.mvmap.specs.Reading.{Visible, Base, visible_over, visible_below, reading, value_seen}
use Rattle.mvmap.specs.Slots.{SlotsByPlace, slot_at, entry_of, value_over, value_over_slots, versions_of}
use Rattle.mvmap.proofs.Readings.{seen_same, seen_none}
use Rattle.mvmap.proofs.Places.{by_writer, is_less, same_place, place_itself, place_total, get_versions}

-- ---- one more entry below all others

lowest_in : (j : ℕ) (o : Option Entry) (c base : Content) (s t : Visible) → o ≢ Some Estimate → value_seen c s ≡ value_seen base t → value_seen c (visible_over j o s) ≡ value_seen base (visible_over j o t)
lowest_in j None c base s t ne h = h
lowest_in j (Some (Stands n (change.Value value))) c base s t ne h = refl
lowest_in j (Some (Stands n change.Gone)) c base s t ne h = refl
lowest_in j (Some (Stands n (change.Sum amount))) c base s t ne h = ap (λ x. Some (add x amount)) h
lowest_in j (Some Estimate) c base s t ne h = absurd (ne refl)

-- a version over the storage before the block
pub one_version : (j n : ℕ) (c : ContentChange) (base : Content) (below : Visible) → value_seen base (visible_over j (Some (Stands n c)) below) ≡ apply_change c (value_seen base below)
one_version j n (change.Value value) base below = refl
one_version j n change.Gone base below = refl
one_version j n (change.Sum amount) base below = refl

-- if f has one version more than e, below all of e's, then f over a base holds what e holds over the base with that version's
-- change
pub lowest : (e f : ℕ → Option Entry) (v n : ℕ) (c : ContentChange) (base : Content) (i : ℕ) → v < i → f v ≡ Some (Stands n c) → ((w : ℕ) → w ≤ v → e w ≡ None) → ((w : ℕ) → w ≢ v → f w ≡ e w)
    → ((w : ℕ) → e w ≢ Some Estimate) → value_seen (apply_change c base) (visible_below e i) ≡ value_seen base (visible_below f i)
unfolding visible_below
lowest e f v n c base zero l at none same ne = absurd (omega arith)
lowest e f v n c base (suc j) l at none same ne = elim (cases_eq j v) [
  | inl p ↦ let nothing : visible_below f j ≡ Base = seen_none f j (λ x a. same x (λ q. absurd (omega (arith, q, p, a))) ∙ none x (omega arith)) in
      ap (value_seen (apply_change c base)) (seen_none e (suc j) (λ x a. none x (omega arith)))
      ∙ sym (ap (value_seen base) (ap (λ o. visible_over j o (visible_below f j)) (ap f p ∙ at)) ∙ one_version j n c base (visible_below f j) ∙ ap (λ s. apply_change c (value_seen base s)) nothing)
  | inr q ↦ lowest_in j (e j) (apply_change c base) base (visible_below e j) (visible_below f j) (ne j) (lowest e f v n c base j (omega arith) at none same ne)
      ∙ sym (ap (λ o. value_seen base (visible_over j o (visible_below f j))) (same j q))
]

-- ---- slots in order

above_by : (p : Place) (e : Place) (q : Place) (b : Bool) → (b ≡ true → q ≡ e) → place_cmp p e ≡ Less → (b ≡ false → place_cmp p q ≡ Less) → place_cmp p q ≡ Less
above_by p e q true same h rest = ap (place_cmp p) (same refl) ∙ h
above_by p e q false same h rest = rest refl

found_later : {X : Type 0} (b : Bool) (x : X) (o : Option X) → b ≡ false → IsSome (cond b (Some x) o) → IsSome o
found_later true x o e h = cc
found_later false x o e h = h

-- a slot of a list whose places all lie above one lies above it
pub above_first : (p : Place) (es : SlotsByPlace) (q : Place) → AllByRecursion (λ y. place_cmp p y ≡ Less) (keys_of es) → IsSome (slot_at es q) → place_cmp p q ≡ Less
above_first p [] q all there = cc
above_first p (e ∷ es) q all there =
    above_by p e.0 q (eq_by_cmp place_cmp q e.0) (same_place q e.0) all.0
    (λ other. above_first p es q all.1 (found_later (eq_by_cmp place_cmp q e.0) e.1 (slot_at es q) other there))

none_if : {X : Type 0} (o : Option X) → (IsSome o → ⊥) → o ≡ None
none_if None h = refl
none_if (Some x) h = absurd (h refl)

-- what the slots at a key hold, by their writers
abbrev pub entries_of : List Record → SlotsByPlace → List ℕ → ℕ → Option Entry
entries_of rs es key w = option_and_then (entry_of rs) (slot_at es (key, w))

some_not_none : {X : Type 0} (x : X) → Some x ≡ None → ⊥
some_not_none x h = cc

false_if : (b : Bool) → (b ≡ true → ⊥) → b ≡ false
false_if true h = absurd (h refl)
false_if false h = refl

picked : {X Y : Type 0} (f : X → Option Y) (b : Bool) (x : X) (o : Option X) → option_and_then f (cond b (Some x) o) ≡ cond b (f x) (option_and_then f o)
picked f true x o = refl
picked f false x o = refl

-- the entry of the first slot at its own place, and that of the later slots at any other
pub first_or_later : (rs : List Record) (p : Place) (s : Slot) (es : SlotsByPlace) (key : List ℕ) (w : ℕ) (b : Bool) → eq_by_cmp place_cmp (key, w) p ≡ b → entries_of rs ((p, s) ∷ es) key w ≡ cond b (entry_of rs s) (entries_of rs es key w)
first_or_later rs p s es key w b h = picked (entry_of rs) (eq_by_cmp place_cmp (key, w) p) s (slot_at es (key, w)) ∙ ap (λ t. cond t (entry_of rs s) (entries_of rs es key w)) h

-- a place that isn't above the first one has no later slot
later_none : (rs : List Record) (p : Place) (es : SlotsByPlace) (key : List ℕ) (w : ℕ) → AllByRecursion (λ y. place_cmp p y ≡ Less) (keys_of es) → (place_cmp p (key, w) ≡ Less → ⊥) → entries_of rs es key w ≡ None
later_none rs p es key w all h = ap (option_and_then (entry_of rs)) (none_if (slot_at es (key, w)) (λ there. h (above_first p es (key, w) all there)))

-- no place is below itself
pub not_below_itself : (p q : Place) → q ≡ p → place_cmp p q ≡ Less → ⊥
not_below_itself p q e h = let tied : place_cmp p p ≡ Equal = tied_itself place_total p in let less : place_cmp p p ≡ Less = ap (place_cmp p) (sym e) ∙ h in cc

-- what the later slots hold at a key is what all slots hold, or nothing
later_same : (rs : List Record) (p : Place) (s : Slot) (es : SlotsByPlace) (key : List ℕ) (w : ℕ) → AllByRecursion (λ y. place_cmp p y ≡ Less) (keys_of es) → (b : Bool) → eq_by_cmp place_cmp (key, w) p ≡ b
    → (entries_of rs es key w ≡ entries_of rs ((p, s) ∷ es) key w) ⊎ (entries_of rs es key w ≡ None)
later_same rs p s es key w all true h = inr (later_none rs p es key w all (not_below_itself p (key, w) (same_place (key, w) p h)))
later_same rs p s es key w all false h = inl (sym (first_or_later rs p s es key w false h))

-- if the first slot has no entry, the later ones hold what all slots hold
empty_first : (rs : List Record) (p : Place) (s : Slot) (es : SlotsByPlace) (key : List ℕ) (w : ℕ) → AllByRecursion (λ y. place_cmp p y ≡ Less) (keys_of es) → entry_of rs s ≡ None → (b : Bool) → eq_by_cmp place_cmp (key, w) p ≡ b
    → entries_of rs es key w ≡ entries_of rs ((p, s) ∷ es) key w
empty_first rs p s es key w all none true h = later_none rs p es key w all (not_below_itself p (key, w) (same_place (key, w) p h)) ∙ sym (first_or_later rs p s es key w true h ∙ none)
empty_first rs p s es key w all none false h = sym (first_or_later rs p s es key w false h)

-- a place at another key is not the place of the first slot
other_key : (key k : List ℕ) (w v : ℕ) → eq_by_cmp key_cmp key k ≡ false → eq_by_cmp place_cmp (key, w) (k, v) ≡ false
other_key key k w v h = false_if (eq_by_cmp place_cmp (key, w) (k, v)) (λ t.
    let one : key ≡ k = ap (λ (p : Place). p.0) (same_place (key, w) (k, v) t) in
    let tied : eq_by_cmp key_cmp key k ≡ true = ap (eq_by_cmp key_cmp key) (sym one) ∙ ap is_eq (tied_itself nat_list_cmp_total key) in
    cc)

other_writer : (key : List ℕ) (w v : ℕ) → w ≢ v → eq_by_cmp place_cmp (key, w) (key, v) ≡ false
other_writer key w v ne = false_if (eq_by_cmp place_cmp (key, w) (key, v)) (λ t. ne (ap (λ (p : Place). p.1) (same_place (key, w) (key, v) t)))

not_above : (key : List ℕ) (v w : ℕ) → w ≤ v → place_cmp (key, v) (key, w) ≡ Less → ⊥
not_above key v w l h = let less : v < w = is_less v w (sym (by_writer key v w) ∙ h) in omega arith

-- a version of the first slot at the key, applied to a base
first_version : (rs : List Record) (key : List ℕ) (v n : ℕ) (c : ContentChange) (base : Content) (s : Slot) (es : SlotsByPlace) (i : ℕ) → AllByRecursion (λ y. place_cmp (key, v) y ≡ Less) (keys_of es)
    → ((w : ℕ) → i ≤ w → entries_of rs (((key, v), s) ∷ es) key w ≡ None) → ((w : ℕ) → entries_of rs es key w ≢ Some Estimate) → entry_of rs s ≡ Some (Stands n c)
    → value_seen (apply_change c base) (visible_below (entries_of rs es key) i) ≡ value_seen base (visible_below (entries_of rs (((key, v), s) ∷ es) key) i)
first_version rs key v n c base s es i all top ne is =
    let at : entries_of rs (((key, v), s) ∷ es) key v ≡ Some (Stands n c) = first_or_later rs (key, v) s es key v true (place_itself (key, v)) ∙ is in
    let not_past : i ≤ v → ⊥ = λ past. some_not_none (Stands n c) (sym at ∙ top v past) in
    lowest (entries_of rs es key) (entries_of rs (((key, v), s) ∷ es) key) v n c base i (omega arith) at
    (λ w l. later_none rs (key, v) es key w all (not_above key v w l))
    (λ w apart. first_or_later rs (key, v) s es key w false (other_writer key w v apart)) ne

-- the first slot at the key, applied to a base
first_applied : (rs : List Record) (key : List ℕ) (v : ℕ) (base : Content) (s : Slot) (es : SlotsByPlace) (i : ℕ) → AllByRecursion (λ y. place_cmp (key, v) y ≡ Less) (keys_of es)
    → ((w : ℕ) → i ≤ w → entries_of rs (((key, v), s) ∷ es) key w ≡ None) → ((w : ℕ) → entries_of rs (((key, v), s) ∷ es) key w ≢ Some Estimate) → ((w : ℕ) → entries_of rs es key w ≢ Some Estimate)
    → (x : Option Entry) → entry_of rs s ≡ x → value_seen (value_over base x) (visible_below (entries_of rs es key) i) ≡ value_seen base (visible_below (entries_of rs (((key, v), s) ∷ es) key) i)
first_applied rs key v base s es i all top ne later None is = ap (value_seen base) (seen_same (entries_of rs es key) (entries_of rs (((key, v), s) ∷ es) key) i (λ w _. empty_first rs (key, v) s es key w all is (eq_by_cmp place_cmp (key, w) (key, v)) refl))
first_applied rs key v base s es i all top ne later (Some (Stands n c)) is = first_version rs key v n c base s es i all top later is
first_applied rs key v base s es i all top ne later (Some Estimate) is = absurd (ne v (first_or_later rs (key, v) s es key v true (place_itself (key, v)) ∙ is))

same_key : (rs : List Record) (key k : List ℕ) → k ≡ key → (v : ℕ) (base : Content) (s : Slot) (es : SlotsByPlace) (i : ℕ) → AllByRecursion (λ y. place_cmp (k, v) y ≡ Less) (keys_of es)
    → ((w : ℕ) → i ≤ w → entries_of rs (((k, v), s) ∷ es) key w ≡ None) → ((w : ℕ) → entries_of rs (((k, v), s) ∷ es) key w ≢ Some Estimate) → ((w : ℕ) → entries_of rs es key w ≢ Some Estimate)
    → value_seen (value_over base (entry_of rs s)) (visible_below (entries_of rs es key) i) ≡ value_seen base (visible_below (entries_of rs (((k, v), s) ∷ es) key) i)
same_key rs key k e v base s es i all top ne later =
    let P : List ℕ → Type 0 = λ k. AllByRecursion (λ y. place_cmp (k, v) y ≡ Less) (keys_of es)
    → ((w : ℕ) → i ≤ w → entries_of rs (((k, v), s) ∷ es) key w ≡ None) → ((w : ℕ) → entries_of rs (((k, v), s) ∷ es) key w ≢ Some Estimate) → ((w : ℕ) → entries_of rs es key w ≢ Some Estimate)
    → value_seen (value_over base (entry_of rs s)) (visible_below (entries_of rs es key) i) ≡ value_seen base (visible_below (entries_of rs (((k, v), s) ∷ es) key) i) in
    subst P (sym e) (λ all top ne later. first_applied rs key v base s es i all top ne later (entry_of rs s) refl) all top ne later

-- the first slot, applied to a base
one_applied : (rs : List Record) (key k : List ℕ) (v : ℕ) (base : Content) (s : Slot) (es : SlotsByPlace) (i : ℕ) → AllByRecursion (λ y. place_cmp (k, v) y ≡ Less) (keys_of es)
    → ((w : ℕ) → i ≤ w → entries_of rs (((k, v), s) ∷ es) key w ≡ None) → ((w : ℕ) → entries_of rs (((k, v), s) ∷ es) key w ≢ Some Estimate) → ((w : ℕ) → entries_of rs es key w ≢ Some Estimate)
    → (b : Bool) → eq_by_cmp key_cmp key k ≡ b → value_seen (cond b (value_over base (entry_of rs s)) base) (visible_below (entries_of rs es key) i) ≡ value_seen base (visible_below (entries_of rs (((k, v), s) ∷ es) key) i)
one_applied rs key k v base s es i all top ne later true h =
    same_key rs key k (sym (tells_apart exact_bytes key k h)) v base s es i all top ne later
one_applied rs key k v base s es i all top ne later false h =
    ap (value_seen base) (seen_same (entries_of rs es key) (entries_of rs (((k, v), s) ∷ es) key) i (λ w _. sym (first_or_later rs (k, v) s es key w false (other_key key k w v h))))

or_none : (rs : List Record) (e : Place × Slot) (es : SlotsByPlace) (key : List ℕ) (w : ℕ) → entries_of rs (e ∷ es) key w ≡ None → AllByRecursion (λ y. place_cmp e.0 y ≡ Less) (keys_of es) → entries_of rs es key w ≡ None
or_none rs e es key w h all = elim (later_same rs e.0 e.1 es key w all (eq_by_cmp place_cmp (key, w) e.0) refl) [ inl p ↦ p ∙ h | inr none ↦ none ]

or_estimate : (rs : List Record) (e : Place × Slot) (es : SlotsByPlace) (key : List ℕ) (w : ℕ) → entries_of rs (e ∷ es) key w ≢ Some Estimate → AllByRecursion (λ y. place_cmp e.0 y ≡ Less) (keys_of es) → entries_of rs es key w ≡ Some Estimate → ⊥
or_estimate rs e es key w ne all h = elim (later_same rs e.0 e.1 es key w all (eq_by_cmp place_cmp (key, w) e.0) refl) [ inl p ↦ ne (sym p ∙ h) | inr none ↦ some_not_none Estimate (sym h ∙ none) ]

-- slots in order, applied to a base, hold at a key what a call above all its writers sees of it
pub values_are : (rs : List Record) (es : SlotsByPlace) (key : List ℕ) (i : ℕ) (base : Content) → IsStrictlySortedBy place_cmp (keys_of es)
    → ((w : ℕ) → i ≤ w → entries_of rs es key w ≡ None) → ((w : ℕ) → entries_of rs es key w ≢ Some Estimate)
    → value_over_slots rs es key base ≡ value_seen base (visible_below (entries_of rs es key) i)
unfolding IsStrictlySortedBy
values_are rs [] key i base order top ne = sym (ap (value_seen base) (seen_none (entries_of rs [] key) i (λ w l. refl)))
values_are rs (e ∷ es) key i base order top ne =
    let none_past : (w : ℕ) → i ≤ w → entries_of rs es key w ≡ None = λ w l. or_none rs e es key w (top w l) order.0 in
    let no_estimate : (w : ℕ) → entries_of rs es key w ≢ Some Estimate = λ w h. or_estimate rs e es key w (ne w) order.0 h in
    values_are rs es key i (cond (eq_by_cmp key_cmp key e.0.0) (value_over base (entry_of rs e.1)) base) order.1 none_past no_estimate
    ∙ one_applied rs key e.0.0 e.0.1 base e.1 es i order.0 top ne no_estimate (eq_by_cmp key_cmp key e.0.0) refl

-- the slots of a map applied to a base hold what a call above all writers sees
pub snapshot_is : (rs : List Record) (es : SlotsByPlace) (v : Versions) → versions_of rs es ≡ v → IsStrictlySortedBy place_cmp (keys_of es) → HasNoEstimate v → (key : List ℕ) (i : ℕ) (base : Content)
    → ((w : ℕ) → i ≤ w → entry_at v key w ≡ None) → value_over_slots rs es key base ≡ value_seen base (reading v key i)
snapshot_is rs es v is order ne key i base top =
    let same : (w : ℕ) → entries_of rs es key w ≡ entry_at v key w = λ w. sym (get_versions rs es (key, w)) ∙ ap (λ (u : Versions). entry_at u key w) is in
    values_are rs es key i base order (λ w l. same w ∙ top w l) (λ w h. ne (key, w) (sym (same w) ∙ h))
    ∙ ap (value_seen base) (seen_same (entries_of rs es key) (entry_at v key) i (λ w _. same w))

-- if both parts hold of an Ok, so does what follows from them
pub on_ok : {X E : Type 0} (r : Result X E) (P Q R : Type 0) → OnOk r P → OnOk r Q → (P → Q → R) → OnOk r R
on_ok (Ok x) P Q R p q h = h p q
on_ok (Err e) P Q R p q h = p
