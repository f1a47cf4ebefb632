-- Positions of keys in the list of slots: the position of each key, and what an edit does to the slots by key.
use Rattle.std.proofs.Common.{◌≡◌, ◌<◌, ◌⊎◌, ◌++◌, ℕ, suc, zero, Bool, true, false, cond, List, [], ◌∷◌, length, set, get_or, slice_get, Bor, Option, None, Some, refl, sym, ap, subst, ◌∙◌, arith, inl, inr}
use Rattle.std.specs.BTreeMap.{is_at}
use Rattle.std.specs.List.{All}
use Rattle.std.specs.List.Sorted.{IsStrictlySortedBy}
use Rattle.std.specs.Map.{keys_of, lookup}
use Rattle.std.specs.Map.Iter.{TakesFirst, deref_pair}
use Rattle.std.specs.Option.{option_map, unwrap_or}
use Rattle.std.proofs.lemmas.Bool.{cases_eq}
use Rattle.std.proofs.lemmas.List.Elements.{All-head, All-nil, All-rest, All-same}
use Rattle.std.proofs.lemmas.Map.Made.{keys_of-map_values, lookup-map_values}
use Rattle.std.proofs.lemmas.Option.{slice_get-get_or}
use Rattle.rv_ledger.proofs.Positions.{get_set_apart, get_set_here, key_itself, other_key, same_key, slice_get_before, slice_get_last}
use Rattle.rv_ledger.specs.Key.{key_cmp}
use Rattle.rv_ledger.specs.Positions.{Positions, position_of}
use Rattle.host_block.specs.Positions.{HavePositions, AreSlotsWithin, IsSlotPlaced, IsSlotSetAt, SlotList, ascending_slots, listed_key_at, no_slot, slot_in, slot_at_key, slot_or_none}
use Rattle.host_block.specs.declared.slot.Slot.{Slot}

-- ---- the slots by key

-- what is looked up by key is at the key's position
pub lookup_in_order : (ps : Positions) (list : SlotList) (q : List ℕ) → lookup (is_at (key_cmp q)) (ascending_slots ps list) ≡ option_map (slot_in list) (position_of ps q)
lookup_in_order ps list q = lookup-map_values (slot_in list) (is_at (key_cmp q)) ps

-- the keys ascend there too
pub in_order_sorted : (ps : Positions) (list : SlotList) → IsStrictlySortedBy key_cmp (keys_of ps) → IsStrictlySortedBy key_cmp (keys_of (ascending_slots ps list))
in_order_sorted ps list up = subst (λ (ks : List (List ℕ)). IsStrictlySortedBy key_cmp ks) (sym (keys_of-map_values (slot_in list) ps)) up

-- ---- the list

-- a position with a key is one of the list
pub key_within : (list : SlotList) (p : ℕ) (key : List ℕ) → listed_key_at list p ≡ Some key → p < length list
key_within [] p key h = cc
key_within (e ∷ list) zero key h = omega arith
key_within (e ∷ list) (suc p) key h = let l = key_within list p key h in omega arith

-- the key of what was found at a position
pub key_found : (list : SlotList) (p : ℕ) (e : List ℕ × Slot) → p < length list → e ≡ get_or list p e → listed_key_at list p ≡ Some e.0
key_found list p e l is = ap (option_map (λ (x : List ℕ × Slot). x.0)) (slice_get-get_or list p e l ∙ ap Some (sym is))

-- the slot of what was found there
pub slot_found : (list : SlotList) (p : ℕ) (e : List ℕ × Slot) → p < length list → e ≡ get_or list p e → slot_in list p ≡ e.1
slot_found list p e l is = ap (λ (x : Option (List ℕ × Slot)). unwrap_or (option_map (λ (y : List ℕ × Slot). y.1) x) no_slot) (slice_get-get_or list p e l ∙ ap Some (sym is))

-- the position of a key is within the list
pub position_within : (ps : Positions) (list : SlotList) → HavePositions ps list → (key : List ℕ) (p : ℕ) → position_of ps key ≡ Some p → p < length list
position_within ps list h key p at = key_within list p key (h.listed key p at)

-- so all positions are within it, if a look-up finds each
pub all_within : (ps : Positions) (list : SlotList) → HavePositions ps list → All (λ e. position_of ps e.0 ≡ Some e.1) ps → AreSlotsWithin ps list
all_within ps list h found k d l = position_within ps list h (get_or ps k d).0 (get_or ps k d).1 (found k d l)

-- the slot of the key of what was found there
pub slot_there : (ps : Positions) (list : SlotList) → HavePositions ps list → (key : List ℕ) (p : ℕ) → position_of ps key ≡ Some p → (e : List ℕ × Slot) → e ≡ get_or list p e → slot_at_key (ascending_slots ps list) key ≡ Some e.1
slot_there ps list h key p at e is = lookup_in_order ps list key ∙ ap (option_map (slot_in list)) at ∙ ap Some (slot_found list p e (position_within ps list h key p at) is)

-- a key without a position has no slot
pub slot_absent : (ps : Positions) (list : SlotList) (key : List ℕ) → position_of ps key ≡ None → slot_at_key (ascending_slots ps list) key ≡ None
slot_absent ps list key none = lookup_in_order ps list key ∙ ap (option_map (slot_in list)) none

-- ---- the slot at a position is replaced

module _ (ps : Positions) (list : SlotList) (h : HavePositions ps list) (key : List ℕ) (p : ℕ) (at : position_of ps key ≡ Some p) (slot : Slot) where
  abbrev now : SlotList
  now = set list p (key, slot)

  here : slice_get now p ≡ Some (key, slot)
  here = get_set_here list p (key, slot) (position_within ps list h key p at)

  key_kept : (q : ℕ) → listed_key_at now q ≡ listed_key_at list q
  key_kept q = elim (cases_eq p q) [
    | inl e ↦ ap (listed_key_at now) (sym e) ∙ ap (option_map (λ (x : List ℕ × Slot). x.0)) here ∙ sym (h.listed key p at) ∙ ap (listed_key_at list) e
    | inr ne ↦ ap (option_map (λ (x : List ℕ × Slot). x.0)) (get_set_apart list p q (key, slot) ne)
  ]

  -- the keys stay at their positions
  set_indexed : HavePositions ps (set list p (key, slot))
  set_indexed = record {
    listed = λ k q e. key_kept q ∙ h.listed k q e;
    indexed = λ k q e. h.indexed k q (sym (key_kept q) ∙ e);
  }

  -- only the slot of that key changes
  set_in_order : IsSlotSetAt (ascending_slots ps list) (ascending_slots ps (set list p (key, slot))) key slot
  set_in_order q =
      lookup_in_order ps now q
      ∙ by (is_at (key_cmp key) q) refl (position_of ps q) refl
      ∙ ap (cond (is_at (key_cmp key) q) (Some slot)) (sym (lookup_in_order ps list q))
    where
      by : (b : Bool) → is_at (key_cmp key) q ≡ b → (o : Option ℕ) → position_of ps q ≡ o → option_map (slot_in now) o ≡ cond b (Some slot) (option_map (slot_in list) o)
      by true t o e =
          ap (option_map (slot_in now)) (sym e ∙ ap (position_of ps) (sym (same_key key q t)) ∙ at)
          ∙ ap (λ (x : Option (List ℕ × Slot)). Some (unwrap_or (option_map (λ (y : List ℕ × Slot). y.1) x) no_slot)) here
      by false t None e = refl
      by false t (Some r) e =
          ap (λ (x : Option (List ℕ × Slot)). Some (unwrap_or (option_map (λ (y : List ℕ × Slot). y.1) x) no_slot)) (get_set_apart list p r (key, slot) (λ same.
          let one : Some key ≡ Some q = sym (h.listed key p at) ∙ ap (listed_key_at list) same ∙ h.listed q r e in
          absurd (other_key key q t cc)))

  -- both hold with the key of the entry that was read there
  pub put_there : (e : List ℕ × Slot) → e ≡ get_or list p e → HavePositions ps (set list p (e.0, slot)) × IsSlotSetAt (ascending_slots ps list) (ascending_slots ps (set list p (e.0, slot))) key slot
  put_there e is =
      let found : Some e.0 ≡ Some key = sym (key_found list p e (position_within ps list h key p at) is) ∙ h.listed key p at in
      let same : e.0 ≡ key = cc in
      rw same (set_indexed, set_in_order)

-- ---- a key is added at the end

module _ (ps after : Positions) (list : SlotList) (h : HavePositions ps list) (key : List ℕ) (slot : Slot) (absent : position_of ps key ≡ None) (n : ℕ) (last : n ≡ length list)
    (added : (q : List ℕ) → position_of after q ≡ cond (is_at (key_cmp key) q) (Some n) (position_of ps q)) where
  added_at : position_of after key ≡ Some n
  added_at = added key ∙ ap (λ b. cond b (Some n) (position_of ps key)) (key_itself key)

  at_end : slice_get (list ++ (key, slot) ∷ []) n ≡ Some (key, slot)
  at_end = ap (slice_get (list ++ (key, slot) ∷ [])) last ∙ slice_get_last list (key, slot)

  was_or_last : (xs : SlotList) (p : ℕ) (q : List ℕ) → listed_key_at (xs ++ (key, slot) ∷ []) p ≡ Some q → (listed_key_at xs p ≡ Some q) ⊎ ((p ≡ length xs) × (key ≡ q))
  was_or_last [] zero q e = let same : Some key ≡ Some q = e in inr (refl, cc)
  was_or_last [] (suc p) q e = cc
  was_or_last (x ∷ xs) zero q e = inl e
  was_or_last (x ∷ xs) (suc p) q e = elim (was_or_last xs p q e) [ inl was ↦ inl was | inr both ↦ inr (ap suc both.0, both.1) ]

  -- each key is at its position
  pub added_indexed : HavePositions after (list ++ (key, slot) ∷ [])
  added_indexed = record {
    listed = λ q p e. listed_by q p (is_at (key_cmp key) q) refl (sym (added q) ∙ e);
    indexed = λ q p e. elim (was_or_last list p q e) [
      | inl was ↦ indexed_by q p (is_at (key_cmp key) q) refl (h.indexed q p was)
      | inr both ↦ ap (position_of after) (sym both.1) ∙ added_at ∙ ap Some (last ∙ sym both.0)
    ];
  }
    where
      listed_by : (q : List ℕ) (p : ℕ) (b : Bool) → is_at (key_cmp key) q ≡ b → cond b (Some n) (position_of ps q) ≡ Some p → listed_key_at (list ++ (key, slot) ∷ []) p ≡ Some q
      listed_by q p true t e = let here : n ≡ p = cc in ap (listed_key_at (list ++ (key, slot) ∷ [])) (sym here) ∙ ap (option_map (λ (x : List ℕ × Slot). x.0)) at_end ∙ ap Some (same_key key q t)
      listed_by q p false t e = ap (option_map (λ (x : List ℕ × Slot). x.0)) (slice_get_before list (key, slot) p (key_within list p q (h.listed q p e))) ∙ h.listed q p e

      indexed_by : (q : List ℕ) (p : ℕ) (b : Bool) → is_at (key_cmp key) q ≡ b → position_of ps q ≡ Some p → position_of after q ≡ Some p
      indexed_by q p true t was = let none : position_of ps q ≡ None = ap (position_of ps) (sym (same_key key q t)) ∙ absent in cc
      indexed_by q p false t was = added q ∙ ap (λ b. cond b (Some n) (position_of ps q)) t ∙ was

  -- it has its slot, and the slots of the other keys stay
  pub added_in_order : IsSlotSetAt (ascending_slots ps list) (ascending_slots after (list ++ (key, slot) ∷ [])) key slot
  added_in_order q =
      lookup_in_order after (list ++ (key, slot) ∷ []) q
      ∙ ap (option_map (slot_in (list ++ (key, slot) ∷ []))) (added q)
      ∙ by (is_at (key_cmp key) q) (position_of ps q) refl
      ∙ ap (cond (is_at (key_cmp key) q) (Some slot)) (sym (lookup_in_order ps list q))
    where
      by : (b : Bool) (o : Option ℕ) → position_of ps q ≡ o → option_map (slot_in (list ++ (key, slot) ∷ [])) (cond b (Some n) o) ≡ cond b (Some slot) (option_map (slot_in list) o)
      by true o e = ap (λ (x : Option (List ℕ × Slot)). Some (unwrap_or (option_map (λ (y : List ℕ × Slot). y.1) x) no_slot)) at_end
      by false None e = refl
      by false (Some p) e =
          ap (λ (x : Option (List ℕ × Slot)). Some (unwrap_or (option_map (λ (y : List ℕ × Slot). y.1) x) no_slot)) (slice_get_before list (key, slot) p (key_within list p q (h.listed q p e)))

-- ---- a key that has a position gets it again

-- the slots stay as they are
pub placed_there : (ps : Positions) (list : SlotList) (key : List ℕ) (p : ℕ) → position_of ps key ≡ Some p → IsSlotPlaced (ascending_slots ps list) (ascending_slots ps list) key
placed_there ps list key p at q = by (is_at (key_cmp key) q) refl
  where
    here : slot_at_key (ascending_slots ps list) key ≡ Some (slot_in list p)
    here = lookup_in_order ps list key ∙ ap (option_map (slot_in list)) at

    by : (b : Bool) → is_at (key_cmp key) q ≡ b → slot_at_key (ascending_slots ps list) q ≡ cond b (Some (slot_or_none (slot_at_key (ascending_slots ps list) key))) (slot_at_key (ascending_slots ps list) q)
    by true same = ap (slot_at_key (ascending_slots ps list)) (sym (same_key key q same)) ∙ here ∙ ap (λ (o : Option Slot). Some (slot_or_none o)) (sym here)
    by false other = refl

module _ (ps between after : Positions) (list : SlotList) (key : List ℕ) (n p : ℕ) (at : position_of ps key ≡ Some p)
    (away : (q : List ℕ) → position_of between q ≡ cond (is_at (key_cmp key) q) (Some n) (position_of ps q))
    (back : (q : List ℕ) → position_of after q ≡ cond (is_at (key_cmp key) q) (Some p) (position_of between q)) where
  as_before : (q : List ℕ) → position_of after q ≡ position_of ps q
  as_before q = back q ∙ ap (cond (is_at (key_cmp key) q) (Some p)) (away q) ∙ by (is_at (key_cmp key) q) refl
    where
      by : (b : Bool) → is_at (key_cmp key) q ≡ b → cond b (Some p) (cond b (Some n) (position_of ps q)) ≡ position_of ps q
      by true same = sym at ∙ ap (position_of ps) (same_key key q same)
      by false other = refl

  pub back_at : position_of after key ≡ Some p
  back_at = as_before key ∙ at

  pub back_indexed : HavePositions ps list → HavePositions after list
  back_indexed h = record {
    listed = λ q position e. h.listed q position (sym (as_before q) ∙ e);
    indexed = λ q position e. as_before q ∙ h.indexed q position e;
  }

  pub back_placed : IsSlotPlaced (ascending_slots ps list) (ascending_slots after list) key
  back_placed q = lookup_in_order after list q ∙ ap (option_map (slot_in list)) (as_before q) ∙ sym (lookup_in_order ps list q) ∙ placed_there ps list key p at q

-- a key that got its first slot
pub placed_last : (old new : SlotList) (key : List ℕ) → slot_at_key old key ≡ None → IsSlotSetAt old new key no_slot → IsSlotPlaced old new key
placed_last old new key none set = subst (λ (o : Option Slot). IsSlotSetAt old new key (slot_or_none o)) (sym none) set

-- a part of the slot of a key was set, once it had a slot
pub set_after : (old between new : SlotList) (key : List ℕ) (f : Slot → Slot) → IsSlotPlaced old between key → IsSlotSetAt between new key (f (slot_or_none (slot_at_key between key))) → IsSlotSetAt old new key (f (slot_or_none (slot_at_key old key)))
set_after old between new key f placed set q = set q ∙ by (is_at (key_cmp key) q) refl
  where
    here : slot_at_key between key ≡ Some (slot_or_none (slot_at_key old key))
    here = placed key ∙ ap (λ b. cond b (Some (slot_or_none (slot_at_key old key))) (slot_at_key old key)) (key_itself key)

    by : (b : Bool) → is_at (key_cmp key) q ≡ b → cond b (Some (f (slot_or_none (slot_at_key between key)))) (slot_at_key between q) ≡ cond b (Some (f (slot_or_none (slot_at_key old key)))) (slot_at_key old q)
    by true same = ap (λ (o : Option Slot). Some (f (slot_or_none o))) here
    by false other = placed q ∙ ap (λ b. cond b (Some (slot_or_none (slot_at_key old key))) (slot_at_key old q)) other

pub part_put : (old : SlotList) (ps : Positions) (list : SlotList) (h : HavePositions ps list) (key : List ℕ) (p : ℕ) (at : position_of ps key ≡ Some p) (f : Slot → Slot) (e : List ℕ × Slot) → e ≡ get_or list p e
    → IsSlotPlaced old (ascending_slots ps list) key → HavePositions ps (set list p (e.0, f e.1)) × IsSlotSetAt old (ascending_slots ps (set list p (e.0, f e.1))) key (f (slot_or_none (slot_at_key old key)))
part_put old ps list h key p at f e is placed =
    let new : SlotList = ascending_slots ps (set list p (e.0, f e.1)) in
    let put = put_there ps list h key p at (f e.1) e is in
    (put.0, set_after old (ascending_slots ps list) new key f placed (subst (λ (o : Option Slot). IsSlotSetAt (ascending_slots ps list) new key (f (slot_or_none o))) (sym (slot_there ps list h key p at e is)) put.1))

-- ---- an iterator over positions takes the first one

abbrev Within : SlotList → List ℕ × ℕ → Type 0
Within list e = e.1 < length list

pub first_within : (list : SlotList) (s t : Positions) (e : List ℕ × ℕ) → s ≡ e ∷ t → AreSlotsWithin s list → e.1 < length list
first_within list s t e is all = All-head (Within list) e t (All-same (Within list) (e ∷ t) s (sym is) all)

pub rest_within : (list : SlotList) (s t : Positions) (r : Option (Bor (List ℕ) × Bor ℕ)) → TakesFirst deref_pair s r t → AreSlotsWithin s list → AreSlotsWithin t list
rest_within list s t None h all = All-same (Within list) t [] h.1 (All-nil (Within list))
rest_within list s t (Some x) h all = All-rest (Within list) (deref_pair x) t s h all
