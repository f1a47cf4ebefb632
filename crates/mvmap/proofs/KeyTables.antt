-- A table of the slots at each key: the position of a key, and what an edit does to it.
use Rattle.std.proofs.Common.{◌≡◌, ◌<◌, ◌+◌, ◌⊎◌, ◌++◌, ℕ, suc, zero, Bool, true, false, T, cond, List, [], ◌∷◌, get_or, length, set, Option, None, Some, refl, sym, ap, subst, ◌∙◌, arith, inl, inr, slice_get}
use mathlib.Core.Bool.{false≢true}
use Rattle.std.specs.BTreeMap.{is_at}
use Rattle.std.specs.Cmp.{eq_by_cmp_equiv, tied_itself}
use Rattle.std.specs.Cmp.Lexicographic.{nat_list_cmp_total}
use Rattle.std.specs.FinMap.{entries, find, len-empty, len-entries, from_entries, from_entries_push, entries_sorted, get, get-entries, get-from_entries, get-insert, is_sorted, slice_cmp-IsAntisymmetric, nat_cmp-IsAntisymmetric}
use Rattle.std.specs.FinMap.Entries.{below_all}
use Rattle.std.specs.List.{AllByRecursion}
use Rattle.std.specs.List.Sorted.{IsStrictlySortedBy}
use Rattle.std.specs.Map.{keys_of, lookup}
use Rattle.std.specs.Option.{option_map, unwrap_or}
use Rattle.std.specs.Ordering.{is_eq, is_lt}
use Rattle.std.specs.declared.cmp.Ordering.TheVariants.{Less}
use Rattle.std.proofs.Math.Facts.{and_yes}
use Rattle.std.proofs.lemmas.Bool.{cases_eq}
use Rattle.std.proofs.lemmas.Map.Lookups.{exact_bytes}
use Rattle.std.proofs.lemmas.Map.Views.{tells_apart}
use Rattle.std.proofs.lemmas.Option.{slice_get-get_or}
use Rattle.rv_ledger.specs.Key.{key_cmp}
use Rattle.rv_ledger.proofs.SortedKeys.{less}
use Rattle.mvmap.specs.Hints.{hint_of, noted}
use Rattle.rv_ledger.specs.Positions.{Positions, position_of}
use Rattle.mvmap.specs.KeyTable.{AreFound, AreSlotsIndexed, AreSlotsSetAt, numbered, positions_of, slot_key_at, slots_in, slots_in_order, writers_at}
use Rattle.mvmap.specs.Slots.{ByKey}
use Rattle.mvmap.specs.Writers.{ByWriter}
use Rattle.mvmap.specs.declared.hints.Hint.TheVariants.{At, Nothing}
use Rattle.mvmap.specs.declared.key_table.KeySlots.{KeySlots}
use Rattle.rv_ledger.proofs.Positions.{get_set_apart, get_set_here, slice_get_before, slice_get_last}
use Rattle.mvmap.proofs.Buckets.{noted_empty, noted_found, noted_kept}

-- ---- keys

-- a test finds a key equal to itself
pub key_itself : (key : List ℕ) → is_at (key_cmp key) key ≡ true
key_itself key = ap is_eq (tied_itself nat_list_cmp_total key)

-- keys that a test finds equal are the same
pub same_key : (key q : List ℕ) → is_at (key_cmp key) q ≡ true → key ≡ q
same_key key q h = tells_apart exact_bytes key q h

-- keys that a test finds different are different
other_key : (key q : List ℕ) → is_at (key_cmp key) q ≡ false → key ≡ q → ⊥
other_key key q h e = false≢true (sym h ∙ ap (is_at (key_cmp key)) (sym e) ∙ key_itself key)

-- ---- the positions of a list's keys

looked_up : (es : Positions) (q : List ℕ) → position_of es q ≡ find key_cmp q es
looked_up [] q = refl
looked_up (e ∷ es) q = ap (cond (is_at (key_cmp q) e.0) (Some e.1)) (looked_up es q)

-- a key's position is the first at which it is in the list
position_is : (list : List KeySlots) (q : List ℕ) → position_of (positions_of list) q ≡ find key_cmp q (numbered 0 list)
unfolding positions_of
position_is list q = looked_up (positions_of list) q ∙ sym (get-entries (from_entries (numbered 0 list)) q) ∙ get-from_entries nat_list_cmp_total (numbered 0 list) q

below_keys : (key : List ℕ) (es : Positions) → T (below_all key_cmp key es) → AllByRecursion (λ y. key_cmp key y ≡ Less) (keys_of es)
below_keys key [] h = tt
below_keys key (e ∷ es) h = let both = and_yes (is_lt (key_cmp key e.0)) (below_all key_cmp key es) h in (less (key_cmp key e.0) both.0, below_keys key es both.1)

rising : (es : Positions) → T (is_sorted key_cmp es) → IsStrictlySortedBy key_cmp (keys_of es)
unfolding IsStrictlySortedBy
rising [] h = tt
rising (e ∷ es) h = let both = and_yes (below_all key_cmp e.0 es) (is_sorted key_cmp es) h in (below_keys e.0 es both.0, rising es both.1)

-- the keys ascend
pub positions_sorted : (list : List KeySlots) → IsStrictlySortedBy key_cmp (keys_of (positions_of list))
unfolding positions_of
positions_sorted list = rising (positions_of list) (entries_sorted (from_entries (numbered 0 list)))

none_of : (es : Positions) → length es ≡ 0 → es ≡ []
none_of [] h = refl
none_of (e ∷ es) h = absurd (omega arith)

-- an empty list has no positions
pub no_positions : positions_of [] ≡ []
unfolding positions_of
no_positions = none_of (positions_of []) (sym (len-entries (from_entries {X = ℕ} {R = key_cmp} [])) ∙ len-empty key_cmp ℕ)

numbered_push : (p : ℕ) (list : List KeySlots) (s : KeySlots) → numbered p (list ++ s ∷ []) ≡ numbered p list ++ (s.key, p + length list) ∷ []
numbered_push p [] s = ap (λ (n : ℕ). (s.key, n) ∷ []) (omega arith)
numbered_push p (x ∷ list) s = ap (λ (es : Positions). (x.key, p) ∷ es) (numbered_push (suc p) list s ∙ ap (λ (n : ℕ). numbered (suc p) list ++ (s.key, n) ∷ []) (omega arith))

-- a key that was not there is at the end after it is added there, and the others stay at their positions
pub position_pushed : (list : List KeySlots) (s : KeySlots) → position_of (positions_of list) s.key ≡ None → (q : List ℕ)
    → position_of (positions_of (list ++ s ∷ [])) q ≡ cond (is_at (key_cmp s.key) q) (Some (length list)) (position_of (positions_of list) q)
position_pushed list s absent q =
    position_is (list ++ s ∷ []) q
    ∙ ap (find key_cmp q) (numbered_push 0 list s)
    ∙ sym (get-from_entries nat_list_cmp_total (numbered 0 list ++ (s.key, 0 + length list) ∷ []) q)
    ∙ ap (λ m. get m q) (from_entries_push nat_list_cmp_total (slice_cmp-IsAntisymmetric nat_cmp-IsAntisymmetric) (numbered 0 list) s.key (0 + length list) (sym (position_is list s.key) ∙ absent))
    ∙ get-insert nat_list_cmp_total (from_entries (numbered 0 list)) s.key (0 + length list) q
    ∙ ap (λ b. cond b (Some (0 + length list)) (get (from_entries {R = key_cmp} (numbered 0 list)) q)) ((eq_by_cmp_equiv nat_list_cmp_total).symm q s.key)
    ∙ ap (cond (is_at (key_cmp s.key) q) (Some (0 + length list))) (get-from_entries nat_list_cmp_total (numbered 0 list) q ∙ sym (position_is list q))
    ∙ ap (λ (n : ℕ). cond (is_at (key_cmp s.key) q) (Some n) (position_of (positions_of list) q)) (omega arith)

numbered_set : (n : ℕ) (list : List KeySlots) (p : ℕ) (s was : KeySlots) → was ≡ get_or list p was → s.key ≡ was.key → numbered n (set list p s) ≡ numbered n list
numbered_set n [] p s was is same = refl
numbered_set n (x ∷ list) zero s was is same = ap (λ (k : List ℕ). (k, n) ∷ numbered (suc n) list) (same ∙ ap (λ (y : KeySlots). y.key) is)
numbered_set n (x ∷ list) (suc p) s was is same = ap (λ (es : Positions). (x.key, n) ∷ es) (numbered_set (suc n) list p s was is same)

-- the keys stay at their positions if the slots at one position are replaced
pub positions_set : (list : List KeySlots) (p : ℕ) (s was : KeySlots) → was ≡ get_or list p was → s.key ≡ was.key → positions_of (set list p s) ≡ positions_of list
unfolding positions_of
positions_set list p s was is same = ap (λ (es : Positions). entries (from_entries {R = key_cmp} es)) (numbered_set 0 list p s was is same)

-- ---- the slots by key

mapped : (list : List KeySlots) (b : Bool) (p : ℕ) (o : Option ℕ) → cond b (Some (slots_in list p)) (option_map (slots_in list) o) ≡ option_map (slots_in list) (cond b (Some p) o)
mapped list true p o = refl
mapped list false p o = refl

-- what is looked up by key is at the key's position
pub lookup_in_order : (test : List ℕ → Bool) (es : Positions) (list : List KeySlots) → lookup test (slots_in_order es list) ≡ option_map (slots_in list) (lookup test es)
lookup_in_order test [] list = refl
lookup_in_order test (e ∷ es) list = ap (cond (test e.0) (Some (slots_in list e.1))) (lookup_in_order test es list) ∙ mapped list (test e.0) e.1 (lookup test es)

keys_in_order : (es : Positions) (list : List KeySlots) → keys_of (slots_in_order es list) ≡ keys_of es
keys_in_order [] list = refl
keys_in_order (e ∷ es) list = ap (λ (ks : List (List ℕ)). e.0 ∷ ks) (keys_in_order es list)

-- the keys ascend there too
pub in_order_sorted : (es : Positions) (list : List KeySlots) → AreSlotsIndexed es list → IsStrictlySortedBy key_cmp (keys_of (slots_in_order es list))
in_order_sorted es list h = subst (λ (ks : List (List ℕ)). IsStrictlySortedBy key_cmp ks) (sym (keys_in_order es list)) h.ordered

-- the slots at a key are those at its position
pub writers_in_order : (es : Positions) (list : List KeySlots) (key : List ℕ) (p : ℕ) → position_of es key ≡ Some p → writers_at (slots_in_order es list) key ≡ slots_in list p
writers_in_order es list key p at = ap (λ (o : Option ByWriter). unwrap_or o []) (lookup_in_order (is_at (key_cmp key)) es list ∙ ap (option_map (slots_in list)) at)

-- a key without a position is not there
pub none_in_order : (es : Positions) (list : List KeySlots) (key : List ℕ) → position_of es key ≡ None → lookup (is_at (key_cmp key)) (slots_in_order es list) ≡ None
none_in_order es list key at = lookup_in_order (is_at (key_cmp key)) es list ∙ ap (option_map (slots_in list)) at

-- so it has no slots
pub no_writers_in_order : (es : Positions) (list : List KeySlots) (key : List ℕ) → position_of es key ≡ None → writers_at (slots_in_order es list) key ≡ []
no_writers_in_order es list key at = ap (λ (o : Option ByWriter). unwrap_or o []) (none_in_order es list key at)

-- if a key is there, nothing changes if it gets the slots that it has
pub stays : (es : Positions) (list : List KeySlots) (key : List ℕ) (p : ℕ) → position_of es key ≡ Some p → AreSlotsSetAt (slots_in_order es list) (slots_in_order es list) key (writers_at (slots_in_order es list) key)
stays es list key p at q = by (is_at (key_cmp key) q) refl
  where
    found : lookup (is_at (key_cmp key)) (slots_in_order es list) ≡ Some (writers_at (slots_in_order es list) key)
    found = lookup_in_order (is_at (key_cmp key)) es list ∙ ap (option_map (slots_in list)) at ∙ ap Some (sym (writers_in_order es list key p at))

    by : (b : Bool) → is_at (key_cmp key) q ≡ b → lookup (is_at (key_cmp q)) (slots_in_order es list) ≡ cond b (Some (writers_at (slots_in_order es list) key)) (lookup (is_at (key_cmp q)) (slots_in_order es list))
    by true t = ap (λ k. lookup (is_at (key_cmp k)) (slots_in_order es list)) (sym (same_key key q t)) ∙ found
    by false t = refl

-- ---- the list

-- a position with a key is one of the list
pub key_within : (list : List KeySlots) (p : ℕ) (key : List ℕ) → slot_key_at list p ≡ Some key → p < length list
key_within [] p key h = cc
key_within (s ∷ list) zero key h = omega arith
key_within (s ∷ list) (suc p) key h = let l = key_within list p key h in omega arith

-- the key of what was found at a position
pub key_found : (list : List KeySlots) (p : ℕ) (s : KeySlots) → p < length list → s ≡ get_or list p s → slot_key_at list p ≡ Some s.key
key_found list p s l is = ap (option_map (λ (x : KeySlots). x.key)) (slice_get-get_or list p s l ∙ ap Some (sym is))

-- ---- the slots at a position are replaced

-- a position that a key has is one of the list
pub position_within : (es : Positions) (list : List KeySlots) → AreSlotsIndexed es list → (key : List ℕ) (p : ℕ) → position_of es key ≡ Some p → p < length list
position_within es list h key p at = key_within list p key (h.listed key p at)

-- if the list is empty, no key is there
pub no_keys : (es : Positions) (list : List KeySlots) → AreSlotsIndexed es list → length list ≡ 0 → (key : List ℕ) → position_of es key ≡ None
no_keys es list h empty key = by (position_of es key) refl
  where
    by : (o : Option ℕ) → position_of es key ≡ o → o ≡ None
    by None e = refl
    by (Some p) e = let within = position_within es list h key p e in absurd (omega arith)

module _ (list : List KeySlots) (h : AreSlotsIndexed (positions_of list) list) (key : List ℕ) (p : ℕ) (at : position_of (positions_of list) key ≡ Some p) (was : KeySlots) (is : was ≡ get_or list p was) (ws : ByWriter) where
  abbrev positions : Positions
  positions = positions_of list

  abbrev new : KeySlots
  new = record { key = was.key; writers = ws }

  abbrev now : List KeySlots
  now = set list p (record { key = was.key; writers = ws })

  here : slice_get list p ≡ Some was
  here = slice_get-get_or list p was (position_within positions list h key p at) ∙ ap Some (sym is)

  here_now : slice_get now p ≡ Some new
  here_now = get_set_here list p new (position_within positions list h key p at)

  -- the replaced slots were the key's
  pub slots_were : was.writers ≡ writers_at (slots_in_order (positions_of list) list) key
  slots_were = sym (writers_in_order positions list key p at ∙ ap (λ (x : Option KeySlots). unwrap_or (option_map (λ (s : KeySlots). s.writers) x) []) here)

  key_kept : (q : ℕ) → slot_key_at now q ≡ slot_key_at list q
  key_kept q = elim (cases_eq p q) [
    | inl e ↦ ap (slot_key_at now) (sym e) ∙ ap (option_map (λ (s : KeySlots). s.key)) here_now ∙ sym (ap (option_map (λ (s : KeySlots). s.key)) here) ∙ ap (slot_key_at list) e
    | inr ne ↦ ap (option_map (λ (s : KeySlots). s.key)) (get_set_apart list p q new ne)
  ]

  -- the keys stay at their positions
  pub positions_kept : positions_of (set list p (record { key = was.key; writers = ws })) ≡ positions_of list
  positions_kept = positions_set list p new was is refl

  pub set_indexed : AreSlotsIndexed (positions_of (set list p (record { key = was.key; writers = ws }))) (set list p (record { key = was.key; writers = ws }))
  set_indexed = record {
    ordered = positions_sorted now;
    listed = λ k q e. key_kept q ∙ h.listed k q (ap (λ fs. position_of fs k) (sym positions_kept) ∙ e);
    indexed = λ k q e. ap (λ fs. position_of fs k) positions_kept ∙ h.indexed k q (sym (key_kept q) ∙ e);
  }

  -- so they are found as they were
  pub set_found : (buckets : List ℕ) (others : Positions) → AreFound buckets others (positions_of list) → AreFound buckets others (positions_of (set list p (record { key = was.key; writers = ws })))
  set_found buckets others = subst (AreFound buckets others) (sym positions_kept)

  -- only that key's slots change
  pub set_in_order : AreSlotsSetAt (slots_in_order (positions_of list) list) (slots_in_order (positions_of (set list p (record { key = was.key; writers = ws }))) (set list p (record { key = was.key; writers = ws }))) key ws
  set_in_order q =
      ap (λ (fs : Positions). lookup (is_at (key_cmp q)) (slots_in_order fs now)) positions_kept
      ∙ lookup_in_order (is_at (key_cmp q)) positions now
      ∙ by (is_at (key_cmp key) q) refl (position_of positions q) refl
      ∙ ap (cond (is_at (key_cmp key) q) (Some ws)) (sym (lookup_in_order (is_at (key_cmp q)) positions list))
    where
      by : (b : Bool) → is_at (key_cmp key) q ≡ b → (o : Option ℕ) → position_of positions q ≡ o → option_map (slots_in now) o ≡ cond b (Some ws) (option_map (slots_in list) o)
      by true t o e =
          ap (option_map (slots_in now)) (sym e ∙ ap (position_of positions) (sym (same_key key q t)) ∙ at)
          ∙ ap (λ (x : Option KeySlots). Some (unwrap_or (option_map (λ (s : KeySlots). s.writers) x) [])) here_now
      by false t None e = refl
      by false t (Some r) e =
          ap (λ (x : Option KeySlots). Some (unwrap_or (option_map (λ (s : KeySlots). s.writers) x) [])) (get_set_apart list p r new (λ same.
          let one : Some key ≡ Some q = sym (h.listed key p at) ∙ ap (slot_key_at list) same ∙ h.listed q r e in
          absurd (other_key key q t cc)))

-- the slots at a key that was given these
pub set_writers : (es fs : ByKey) (key : List ℕ) (ws : ByWriter) → AreSlotsSetAt es fs key ws → writers_at fs key ≡ ws
set_writers es fs key ws h = ap (λ (o : Option ByWriter). unwrap_or o []) (h key ∙ ap (λ b. cond b (Some ws) (lookup (is_at (key_cmp key)) es)) (key_itself key))

-- a key that was given some slots and then others
pub set_twice : (es fs gs : ByKey) (key : List ℕ) (vs ws : ByWriter) → AreSlotsSetAt es fs key vs → AreSlotsSetAt fs gs key ws → AreSlotsSetAt es gs key ws
set_twice es fs gs key vs ws first second q = second q ∙ ap (cond (is_at (key_cmp key) q) (Some ws)) (first q) ∙ by (is_at (key_cmp key) q)
  where
    by : (b : Bool) → cond b (Some ws) (cond b (Some vs) (lookup (is_at (key_cmp q)) es)) ≡ cond b (Some ws) (lookup (is_at (key_cmp q)) es)
    by true = refl
    by false = refl

-- ---- a key is added at the end

module _ (list : List KeySlots) (h : AreSlotsIndexed (positions_of list) list) (key : List ℕ) (absent : position_of (positions_of list) key ≡ None) (n : ℕ) (last : n ≡ length list) where
  abbrev empty : KeySlots
  empty = record { key = key; writers = [] }

  abbrev old_positions : Positions
  old_positions = positions_of list

  abbrev new_positions : Positions
  new_positions = positions_of (list ++ empty ∷ [])

  added : (q : List ℕ) → position_of new_positions q ≡ cond (is_at (key_cmp key) q) (Some n) (position_of old_positions q)
  added q = position_pushed list empty absent q ∙ ap (λ (p : ℕ). cond (is_at (key_cmp key) q) (Some p) (position_of old_positions q)) (sym last)

  -- its position is the last
  pub added_at : position_of (positions_of (list ++ record { key = key; writers = [] } ∷ [])) key ≡ Some n
  added_at = added key ∙ ap (λ b. cond b (Some n) (position_of old_positions key)) (key_itself key)

  at_last : slice_get (list ++ empty ∷ []) n ≡ Some empty
  at_last = ap (slice_get (list ++ empty ∷ [])) last ∙ slice_get_last list empty

  was_or_last : (xs : List KeySlots) (p : ℕ) (q : List ℕ) → slot_key_at (xs ++ empty ∷ []) p ≡ Some q → (slot_key_at xs p ≡ Some q) ⊎ ((p ≡ length xs) × (key ≡ q))
  was_or_last [] zero q e = let same : Some key ≡ Some q = e in inr (refl, cc)
  was_or_last [] (suc p) q e = cc
  was_or_last (x ∷ xs) zero q e = inl e
  was_or_last (x ∷ xs) (suc p) q e = elim (was_or_last xs p q e) [ inl was ↦ inl was | inr both ↦ inr (ap suc both.0, both.1) ]

  -- each key is at its position
  pub added_indexed : AreSlotsIndexed (positions_of (list ++ record { key = key; writers = [] } ∷ [])) (list ++ record { key = key; writers = [] } ∷ [])
  added_indexed = record {
    ordered = positions_sorted (list ++ empty ∷ []);
    listed = λ q p e. listed_by q p (is_at (key_cmp key) q) refl (sym (added q) ∙ e);
    indexed = λ q p e. elim (was_or_last list p q e) [
      | inl was ↦ indexed_by q p (is_at (key_cmp key) q) refl (h.indexed q p was)
      | inr both ↦ ap (position_of new_positions) (sym both.1) ∙ added_at ∙ ap Some (last ∙ sym both.0)
    ];
  }
    where
      listed_by : (q : List ℕ) (p : ℕ) (b : Bool) → is_at (key_cmp key) q ≡ b → cond b (Some n) (position_of old_positions q) ≡ Some p → slot_key_at (list ++ empty ∷ []) p ≡ Some q
      listed_by q p true t e = let here : n ≡ p = cc in ap (slot_key_at (list ++ empty ∷ [])) (sym here) ∙ ap (option_map (λ (s : KeySlots). s.key)) at_last ∙ ap Some (same_key key q t)
      listed_by q p false t e = ap (option_map (λ (s : KeySlots). s.key)) (slice_get_before list empty p (key_within list p q (h.listed q p e))) ∙ h.listed q p e

      indexed_by : (q : List ℕ) (p : ℕ) (b : Bool) → is_at (key_cmp key) q ≡ b → position_of old_positions q ≡ Some p → position_of new_positions q ≡ Some p
      indexed_by q p true t was = let none : position_of old_positions q ≡ None = ap (position_of old_positions) (sym (same_key key q t)) ∙ absent in cc
      indexed_by q p false t was = added q ∙ ap (λ b. cond b (Some n) (position_of old_positions q)) t ∙ was

  -- it has no slots, and those at the other keys stay
  pub added_in_order : AreSlotsSetAt (slots_in_order (positions_of list) list) (slots_in_order (positions_of (list ++ record { key = key; writers = [] } ∷ [])) (list ++ record { key = key; writers = [] } ∷ [])) key []
  added_in_order q =
      lookup_in_order (is_at (key_cmp q)) new_positions (list ++ empty ∷ [])
      ∙ ap (option_map (slots_in (list ++ empty ∷ []))) (added q)
      ∙ by (is_at (key_cmp key) q) (position_of old_positions q) refl
      ∙ ap (cond (is_at (key_cmp key) q) (Some [])) (sym (lookup_in_order (is_at (key_cmp q)) old_positions list))
    where
      by : (b : Bool) (o : Option ℕ) → position_of old_positions q ≡ o → option_map (slots_in (list ++ empty ∷ [])) (cond b (Some n) o) ≡ cond b (Some []) (option_map (slots_in list) o)
      by true o e = ap (λ (x : Option KeySlots). Some (unwrap_or (option_map (λ (s : KeySlots). s.writers) x) [])) at_last
      by false None e = refl
      by false (Some p) e =
          ap (λ (x : Option KeySlots). Some (unwrap_or (option_map (λ (s : KeySlots). s.writers) x) [])) (slice_get_before list empty p (key_within list p q (h.listed q p e)))

  -- each key is found if the added one was noted and is found, and the tree is unchanged at the others
  pub added_found : (buckets : List ℕ) (others after : Positions) → AreFound buckets others (positions_of list)
      → (hint_of (noted buckets key n) key ≡ At n) ⊎ (position_of after key ≡ Some n)
      → ((q : List ℕ) → (position_of after q ≡ position_of others q) ⊎ ((key ≡ q) × (position_of after q ≡ Some n)))
      → AreFound (noted buckets key n) after (positions_of (list ++ record { key = key; writers = [] } ∷ []))
  added_found buckets others after was here tree = record {
    hinted = λ q e. added q ∙ hinted_by q e (is_at (key_cmp key) q) refl;
    found = λ q p e. found_by q p (is_at (key_cmp key) q) refl (sym (added q) ∙ e);
    sound = λ q p e. elim (tree q) [
      | inl same ↦ sound_by q p (is_at (key_cmp key) q) refl (was.sound q p (sym same ∙ e))
      | inr both ↦ ap (position_of new_positions) (sym both.0) ∙ added_at ∙ sym both.1 ∙ e
    ];
  }
    where
      hinted_by : (q : List ℕ) → hint_of (noted buckets key n) q ≡ Nothing → (b : Bool) → is_at (key_cmp key) q ≡ b → cond b (Some n) (position_of old_positions q) ≡ None
      hinted_by q e true t = absurd (noted_found buckets key n (ap (hint_of (noted buckets key n)) (same_key key q t) ∙ e))
      hinted_by q e false t = was.hinted q (noted_empty buckets key n q e)

      found_by : (q : List ℕ) (p : ℕ) (b : Bool) → is_at (key_cmp key) q ≡ b → cond b (Some n) (position_of old_positions q) ≡ Some p → (hint_of (noted buckets key n) q ≡ At p) ⊎ (position_of after q ≡ Some p)
      found_by q p true t e = elim here [
        | inl hint ↦ inl (ap (hint_of (noted buckets key n)) (sym (same_key key q t)) ∙ hint ∙ ap At (let is : n ≡ p = cc in is))
        | inr in_tree ↦ inr (ap (position_of after) (sym (same_key key q t)) ∙ in_tree ∙ e)
      ]
      found_by q p false t e = elim (was.found q p e) [
        | inl hint ↦ inl (noted_kept buckets key n q p hint)
        | inr in_tree ↦ inr (elim (tree q) [ inl same ↦ same ∙ in_tree | inr both ↦ absurd (other_key key q t both.0) ])
      ]

      sound_by : (q : List ℕ) (p : ℕ) (b : Bool) → is_at (key_cmp key) q ≡ b → position_of old_positions q ≡ Some p → position_of new_positions q ≡ Some p
      sound_by q p true t e = let none : position_of old_positions q ≡ None = ap (position_of old_positions) (sym (same_key key q t)) ∙ absent in cc
      sound_by q p false t e = added q ∙ ap (λ b. cond b (Some n) (position_of old_positions q)) t ∙ e

-- ---- the buckets and the tree

module _ (buckets : List ℕ) (others positions : Positions) (h : AreFound buckets others positions) where
  -- the keys are found as they were, after a position was noted that none of them has
  pub still_found : (key : List ℕ) (n : ℕ) (after : Positions) → after ≡ others → AreFound (noted buckets key n) after positions
  still_found key n after same = record {
    hinted = λ q e. h.hinted q (noted_empty buckets key n q e);
    found = λ q p e. elim (h.found q p e) [
      | inl hint ↦ inl (noted_kept buckets key n q p hint)
      | inr in_tree ↦ inr (ap (λ es. position_of es q) same ∙ in_tree)
    ];
    sound = λ q p e. h.sound q p (ap (λ es. position_of es q) (sym same) ∙ e);
  }

  -- if no key is there, all buckets will do
  pub none_found : ((key : List ℕ) → position_of positions key ≡ None) → (now : List ℕ) → AreFound now others positions
  none_found none now = record {
    hinted = λ q e. none q;
    found = λ q p e. let nothing : position_of positions q ≡ None = none q in cc;
    sound = h.sound;
  }
