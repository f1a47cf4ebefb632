-- The slots at all keys, by key and by place.
use Rattle.std.proofs.Common.{◌≡◌, ◌==◌, ◌&&◌, ◌++◌, ℕ, if◌then◌else◌, Bool, true, false, cond, List, [], ◌∷◌, ◌≢◌, ◌⊎◌, Option, None, Some, is_some, IsSome, Result, Ok, Err, OnOk, OnErr, inl, inr, refl, sym, ap, ◌∙◌, arith}
use mathlib.Core.Bool.{false≢true}
use Rattle.std.specs.declared.cmp.Ordering.{Ordering}
use Rattle.std.specs.declared.cmp.Ordering.TheVariants.{Less, Equal, Greater}
use Rattle.std.specs.BTreeMap.{is_at}
use Rattle.std.specs.Cmp.{eq_by_cmp_equiv}
use Rattle.std.specs.Cmp.Lexicographic.{nat_list_cmp_total}
use Rattle.std.specs.List.{AllByRecursion}
use Rattle.std.specs.List.Sorted.{IsStrictlySortedBy}
use Rattle.std.specs.Map.{keys_of, lookup}
use Rattle.std.specs.Option.{option_and_then, unwrap_or}
use Rattle.std.specs.Ordering.{nat_cmp, ordering_then, is_eq, eq_by_cmp}
use Rattle.std.proofs.lemmas.Bool.Decides.{nat_tests}
use Rattle.std.proofs.lemmas.Map.{lookup-none}
use Rattle.std.proofs.lemmas.Map.Entries.{none_past_head}
use Rattle.std.proofs.lemmas.Map.Keys.{IsDistinct-from_sorted}
use Rattle.std.proofs.lemmas.Map.Lookups.{exact_bytes}
use Rattle.std.proofs.lemmas.Map.Views.{tells_apart}
use Rattle.rv_ledger.specs.Change.{Content}
use Rattle.rv_ledger.specs.Key.{key_cmp}
use Rattle.version_arena.specs.ArenaState.{Record}
use Rattle.mvmap.specs.Versions.{Place, place_cmp}
use Rattle.mvmap.specs.KeyTable.{writers_at}
use Rattle.mvmap.specs.Slots.{SlotsByPlace, ByKey, AreSlotsOpened, at_places, entry_of, flat, slot_at, value_over, value_over_slots}
use Rattle.mvmap.specs.Writers.{ByWriter, AreWritersAscending, slot_of}
use Rattle.mvmap.specs.declared.slot.Slot.{Slot}
use Rattle.mvmap.specs.declared.slot.Slot.TheVariants as slot
use Rattle.mvmap.proofs.Places.{by_writer, place_itself, same_place}

-- the slot of a writer at a key, found by key first
abbrev pub nested_at : ByKey → List ℕ → ℕ → Option Slot
nested_at es key w = option_and_then (λ ws. slot_of ws w) (lookup (is_at (key_cmp key)) es)

-- ---- finding a slot

abbrev either : Option Slot → Option Slot → Option Slot
either None o = o
either (Some s) o = Some s

either_by : (b : Bool) (s : Slot) (o p : Option Slot) → cond b (Some s) (either o p) ≡ either (cond b (Some s) o) p
either_by true s o p = refl
either_by false s o p = refl

-- among two lists
found_in : (test : Place → Bool) (es fs : SlotsByPlace) → lookup test (es ++ fs) ≡ either (lookup test es) (lookup test fs)
found_in test [] fs = refl
found_in test (e ∷ es) fs = ap (cond (test e.0) (Some e.1)) (found_in test es fs) ∙ either_by (test e.0) e.1 (lookup test es) (lookup test fs)

both_equal : (r s : Ordering) → is_eq (ordering_then r s) ≡ (is_eq r && is_eq s)
both_equal Less s = refl
both_equal Equal s = refl
both_equal Greater s = refl

same_writer : (w v : ℕ) → is_eq (nat_cmp w v) ≡ (v == w)
same_writer w v = grind (arith, nat_tests)

equal_numbers : (w v : ℕ) → is_eq (nat_cmp w v) ≡ (w == v)
equal_numbers w v = grind (arith, nat_tests)

place_test : (key : List ℕ) (w : ℕ) (k : List ℕ) (v : ℕ) → is_at (place_cmp (key, w)) (k, v) ≡ (eq_by_cmp key_cmp key k && (v == w))
place_test key w k v = both_equal (key_cmp key k) (nat_cmp w v) ∙ ap (λ b. eq_by_cmp key_cmp key k && b) (same_writer w v)

both_same : (b : Bool) (o : Option Slot) → o ≡ cond b o o
both_same true o = refl
both_same false o = refl

step_by : (b c : Bool) (s : Slot) (o : Option Slot) → cond (b && c) (Some s) (cond b o None) ≡ cond b (cond c (Some s) o) None
step_by true c s o = refl
step_by false c s o = refl

-- among the slots of one key
found_at_key : (key : List ℕ) (w : ℕ) (k : List ℕ) (ws : ByWriter) → lookup (is_at (place_cmp (key, w))) (at_places k ws) ≡ cond (eq_by_cmp key_cmp key k) (slot_of ws w) None
found_at_key key w k [] = both_same (eq_by_cmp key_cmp key k) None
found_at_key key w k (s ∷ ws) =
    ap (λ b. cond b (Some s.1) (lookup (is_at (place_cmp (key, w))) (at_places k ws))) (place_test key w k s.0)
    ∙ ap (cond (eq_by_cmp key_cmp key k && (s.0 == w)) (Some s.1)) (found_at_key key w k ws)
    ∙ step_by (eq_by_cmp key_cmp key k) (s.0 == w) s.1 (slot_of ws w)

or_none : (o p : Option Slot) → p ≡ None → either o p ≡ o
or_none None p e = e
or_none (Some s) p e = refl

first_key : (e : List ℕ × ByWriter) (es : ByKey) (key : List ℕ) (w : ℕ) (b : Bool) → slot_at (flat es) (key, w) ≡ nested_at es key w → (b ≡ true → lookup (is_at (key_cmp key)) es ≡ None)
    → either (cond b (slot_of e.1 w) None) (slot_at (flat es) (key, w)) ≡ option_and_then (λ ws. slot_of ws w) (cond b (Some e.1) (lookup (is_at (key_cmp key)) es))
first_key e es key w true rest none = or_none (slot_of e.1 w) _ (rest ∙ ap (option_and_then (λ (ws : ByWriter). slot_of ws w)) (none refl))
first_key e es key w false rest none = rest

-- the slot at a place is the writer's at the key
pub flat_at : (es : ByKey) → IsStrictlySortedBy key_cmp (keys_of es) → (key : List ℕ) (w : ℕ) → slot_at (flat es) (key, w) ≡ nested_at es key w
unfolding IsStrictlySortedBy
flat_at [] order key w = refl
flat_at (e ∷ es) order key w =
    found_in (is_at (place_cmp (key, w))) (at_places e.0 e.1) (flat es)
    ∙ ap (λ o. either o (slot_at (flat es) (key, w))) (found_at_key key w e.0 e.1)
    ∙ first_key e es key w (eq_by_cmp key_cmp key e.0) (flat_at es order.1 key w) (λ here.
    lookup-none (is_at (key_cmp key)) es (none_past_head (eq_by_cmp_equiv nat_list_cmp_total) key e es (IsDistinct-from_sorted key_cmp (keys_of (e ∷ es)) order) here))

-- ---- the order of places

-- below the places of higher writers at the key, and below those after them
below_writers : (key : List ℕ) (w : ℕ) (ws : ByWriter) (rest : SlotsByPlace) → AllByRecursion (λ v. nat_cmp w v ≡ Less) (keys_of ws) → AllByRecursion (λ y. place_cmp (key, w) y ≡ Less) (keys_of rest)
    → AllByRecursion (λ y. place_cmp (key, w) y ≡ Less) (keys_of (at_places key ws ++ rest))
below_writers key w [] rest lower h = h
below_writers key w (s ∷ ws) rest lower h = (by_writer key w s.0 ∙ lower.0, below_writers key w ws rest lower.1 h)

-- below all places of a higher key, and below those after them
below_key : (key : List ℕ) (w : ℕ) (k : List ℕ) (ws : ByWriter) (rest : SlotsByPlace) → key_cmp key k ≡ Less → AllByRecursion (λ y. place_cmp (key, w) y ≡ Less) (keys_of rest)
    → AllByRecursion (λ y. place_cmp (key, w) y ≡ Less) (keys_of (at_places k ws ++ rest))
below_key key w k [] rest less h = h
below_key key w k (s ∷ ws) rest less h = (ap (λ r. ordering_then r (nat_cmp w s.0)) less, below_key key w k ws rest less h)

below_keys : (key : List ℕ) (w : ℕ) (es : ByKey) → AllByRecursion (λ y. key_cmp key y ≡ Less) (keys_of es) → AllByRecursion (λ y. place_cmp (key, w) y ≡ Less) (keys_of (flat es))
below_keys key w [] all = tt
below_keys key w (e ∷ es) all = below_key key w e.0 e.1 (flat es) all.0 (below_keys key w es all.1)

one_key_sorted : (key : List ℕ) (ws : ByWriter) (rest : SlotsByPlace) → AreWritersAscending ws → ((w : ℕ) → AllByRecursion (λ y. place_cmp (key, w) y ≡ Less) (keys_of rest)) → IsStrictlySortedBy place_cmp (keys_of rest)
    → IsStrictlySortedBy place_cmp (keys_of (at_places key ws ++ rest))
unfolding IsStrictlySortedBy
one_key_sorted key [] rest up above sorted = sorted
one_key_sorted key (s ∷ ws) rest up above sorted =
    (below_writers key s.0 ws rest up.0 (above s.0), one_key_sorted key ws rest up.1 above sorted)

-- the writers rise at each key
abbrev pub AreAllAscending : ByKey → Type 0
AreAllAscending es = AllByRecursion (λ e. AreWritersAscending e.1) es

-- the places of all slots rise
pub flat_sorted : (es : ByKey) → IsStrictlySortedBy key_cmp (keys_of es) → AreAllAscending es → IsStrictlySortedBy place_cmp (keys_of (flat es))
unfolding IsStrictlySortedBy
flat_sorted [] order up = tt
flat_sorted (e ∷ es) order up = one_key_sorted e.0 e.1 (flat es) up.0 (λ w. below_keys e.0 w es order.0) (flat_sorted es order.1 up.1)

-- ---- what the slots do to a value

-- one part after the other
pub value_over_both : (rs : List Record) (es fs : SlotsByPlace) (key : List ℕ) (base : Content) → value_over_slots rs (es ++ fs) key base ≡ value_over_slots rs fs key (value_over_slots rs es key base)
value_over_both rs [] fs key base = refl
value_over_both rs (e ∷ es) fs key base = value_over_both rs es fs key (if eq_by_cmp key_cmp key e.0.0 then value_over base (entry_of rs e.1) else base)

-- ---- writing at one key

written_nested : (es fs : ByKey) (key : List ℕ) (ws : ByWriter) → ((q : List ℕ) → lookup (is_at (key_cmp q)) fs ≡ cond (is_at (key_cmp key) q) (Some ws) (lookup (is_at (key_cmp q)) es))
    → (k : List ℕ) (w : ℕ) → nested_at fs k w ≡ cond (is_at (key_cmp key) k) (slot_of ws w) (nested_at es k w)
written_nested es fs key ws h k w = ap (option_and_then (λ (us : ByWriter). slot_of us w)) (h k) ∙ pushed (is_at (key_cmp key) k) (lookup (is_at (key_cmp k)) es)
  where
    pushed : (b : Bool) (o : Option ByWriter) → option_and_then (λ us. slot_of us w) (cond b (Some ws) o) ≡ cond b (slot_of ws w) (option_and_then (λ us. slot_of us w) o)
    pushed true o = refl
    pushed false o = refl

of_listed : (o : Option ByWriter) (w : ℕ) → option_and_then (λ us. slot_of us w) o ≡ slot_of (unwrap_or o []) w
of_listed None w = refl
of_listed (Some ws) w = refl

-- a slot is that of the writer among those at the key
pub at_writers : (es : ByKey) → IsStrictlySortedBy key_cmp (keys_of es) → (key : List ℕ) (w : ℕ) → slot_at (flat es) (key, w) ≡ slot_of (writers_at es key) w
at_writers es order key w = flat_at es order key w ∙ of_listed (lookup (is_at (key_cmp key)) es) w

module _ (es fs : ByKey) (old : IsStrictlySortedBy key_cmp (keys_of es)) (new : IsStrictlySortedBy key_cmp (keys_of fs)) (key : List ℕ) (ws : ByWriter)
    (h : (q : List ℕ) → lookup (is_at (key_cmp q)) fs ≡ cond (is_at (key_cmp key) q) (Some ws) (lookup (is_at (key_cmp q)) es)) where
  -- if the slots of one key are replaced and the slot of one writer changes by f, the slot at that place changes by f and no
  -- other does
  pub written_at : (w : ℕ) (f : Option Slot → Option Slot) → ((v : ℕ) → slot_of ws v ≡ (if w == v then f (slot_of (writers_at es key) v) else slot_of (writers_at es key) v))
      → (q : Place) → slot_at (flat fs) q ≡ cond (is_at (place_cmp (key, w)) q) (f (slot_at (flat es) q)) (slot_at (flat es) q)
  written_at w f change q =
      flat_at fs new q.0 q.1 ∙ written_nested es fs key ws h q.0 q.1
      ∙ by (is_at (key_cmp key) q.0) (λ t. tells_apart exact_bytes key q.0 t)
      ∙ sym (ap (λ b. cond b (f (slot_at (flat es) q)) (slot_at (flat es) q)) (both_equal (key_cmp key q.0) (nat_cmp w q.1) ∙ ap (λ b. is_at (key_cmp key) q.0 && b) (equal_numbers w q.1)))
    where
      at_key : (b : Bool) (o p : Option Slot) → p ≡ o → cond b (f o) o ≡ cond b (f p) p
      at_key b o p e = ap (λ x. cond b (f x) x) (sym e)

      by : (b : Bool) → (b ≡ true → key ≡ q.0) → cond b (slot_of ws q.1) (nested_at es q.0 q.1) ≡ cond (b && (w == q.1)) (f (slot_at (flat es) q)) (slot_at (flat es) q)
      by true same = change q.1 ∙ at_key (w == q.1) (slot_of (writers_at es key) q.1) (slot_at (flat es) q) (at_writers es old q.0 q.1 ∙ ap (λ k. slot_of (writers_at es k) q.1) (sym (same refl)))
      by false same = sym (flat_at es old q.0 q.1)

-- ---- a slot that is made

-- what the slots are after a call was given one at a key, or was refused it
pub record IsMade {E : Type 0} (es fs : SlotsByPlace) (place : Place) (r : Result (Unit {0}) E) : Type 0 where
  pub ok : OnOk r ((q : Place) → slot_at fs q ≡ cond (is_at (place_cmp place) q) (Some (unwrap_or (slot_at es q) slot.Vacant)) (slot_at es q))
  pub err : OnErr r ((q : Place) → slot_at fs q ≡ slot_at es q)

module _ (os ns : ByKey) (key : List ℕ) (ws : ByWriter) (w : ℕ) (es : SlotsByPlace) (view : flat os ≡ es) (old : IsStrictlySortedBy key_cmp (keys_of os)) (new : IsStrictlySortedBy key_cmp (keys_of ns))
    (h : (q : List ℕ) → lookup (is_at (key_cmp q)) ns ≡ cond (is_at (key_cmp key) q) (Some ws) (lookup (is_at (key_cmp q)) os)) (before : ByWriter) (was : before ≡ writers_at os key) where
  unchanged : (o p : Option Slot) (b : Bool) → p ≡ cond b o o → p ≡ o
  unchanged o p true e = e
  unchanged o p false e = e

  -- if the slot of one writer changes by f
  pub changed_at : (f : Option Slot → Option Slot) → ((v : ℕ) → slot_of ws v ≡ (if w == v then f (slot_of before v) else slot_of before v))
      → (q : Place) → slot_at (flat ns) q ≡ cond (is_at (place_cmp (key, w)) q) (f (slot_at es q)) (slot_at es q)
  changed_at f change q =
      written_at os ns old new key ws h w f (λ v. change v ∙ ap (λ us. if w == v then f (slot_of us v) else slot_of us v) was) q
      ∙ ap (λ (xs : SlotsByPlace). cond (is_at (place_cmp (key, w)) q) (f (slot_at xs q)) (slot_at xs q)) view

  -- if a call got a slot, or was refused it
  pub made_at : {E : Type 0} (r : Result (Unit {0}) E) → OnOk r ((v : ℕ) → slot_of ws v ≡ (if w == v then Some (unwrap_or (slot_of before v) slot.Vacant) else slot_of before v)) → OnErr r (ws ≡ before)
      → IsMade es (flat ns) (key, w) r
  made_at (Ok x) made same = record { ok = changed_at (λ o. Some (unwrap_or o slot.Vacant)) made; err = tt }
  made_at (Err x) made same = record {
    ok = tt;
    err = λ q. unchanged _ _ (is_at (place_cmp (key, w)) q) (changed_at (λ o. o) (λ v. ap (λ us. slot_of us v) same ∙ both_same (w == v) (slot_of before v)) q);
  }

-- a key that is not there has no slot
pub no_key : (os : ByKey) (key : List ℕ) (w : ℕ) (es : SlotsByPlace) → flat os ≡ es → IsStrictlySortedBy key_cmp (keys_of os) → lookup (is_at (key_cmp key)) os ≡ None → slot_at es (key, w) ≡ None
no_key os key w es view old none = ap (λ (xs : SlotsByPlace). slot_at xs (key, w)) (sym view) ∙ flat_at os old key w ∙ ap (option_and_then (λ (us : ByWriter). slot_of us w)) none

opened_by : (o p : Option Slot) (b : Bool) → p ≡ cond b (Some (unwrap_or o slot.Vacant)) o → (p ≡ o) ⊎ ((o ≡ None) × (p ≡ Some slot.Vacant))
opened_by None p true h = inr (refl, h)
opened_by (Some s) p true h = inl h
opened_by o p false h = inl h

there_by : (o p : Option Slot) (b : Bool) → b ≡ true → p ≡ cond b (Some (unwrap_or o slot.Vacant)) o → IsSome p
there_by o p true e h = ap is_some h
there_by o p false e h = absurd (false≢true e)

apart_by : (o p : Option Slot) (b : Bool) → (b ≡ true → ⊥) → p ≡ cond b (Some (unwrap_or o slot.Vacant)) o → p ≡ o
apart_by o p true ne h = absurd (ne refl)
apart_by o p false ne h = h

module _ {E : Type 0} (es fs : SlotsByPlace) (place : Place) where
  pub made_opened : (r : Result (Unit {0}) E) → IsMade es fs place r → AreSlotsOpened es fs
  made_opened (Ok x) h = λ q. opened_by (slot_at es q) (slot_at fs q) (is_at (place_cmp place) q) (h.ok q)
  made_opened (Err x) h = λ q. inl (h.err q)

  pub made_there : (r : Result (Unit {0}) E) → IsMade es fs place r → OnOk r (IsSome (slot_at fs place))
  made_there (Ok x) h = there_by (slot_at es place) (slot_at fs place) (is_at (place_cmp place) place) (place_itself place) (h.ok place)
  made_there (Err x) h = tt

  pub made_apart : (r : Result (Unit {0}) E) → IsMade es fs place r → (q : Place) → place ≢ q → slot_at fs q ≡ slot_at es q
  made_apart (Ok x) h q ne = apart_by (slot_at es q) (slot_at fs q) (is_at (place_cmp place) q) (λ t. ne (same_place place q t)) (h.ok q)
  made_apart (Err x) h q ne = h.err q
