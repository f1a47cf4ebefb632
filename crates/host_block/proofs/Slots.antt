-- The parts of slots: what is found of each, what an edit changes, and how they are listed.
use Rattle.std.proofs.Common.{◌≡◌, ℕ, Bool, true, false, cond, T, List, [], ◌∷◌, Option, None, Some, Result, Ok, Err, OnOk, OnErr, refl, sym, ap, ◌∙◌}
use Rattle.std.specs.declared.alloc.AllocError.{AllocError}
use Rattle.std.specs.FinMap.{empty, entries, entries-from_sorted, entries_sorted, find, from_entries, from_sorted, get, get-empty, get-entries, get-from_entries, get-from_sorted, get-insert, insert, is_sorted, same_map}
use Rattle.std.specs.FinMap.Entries.{below_all}
use Rattle.std.specs.Cmp.{eq_by_cmp_equiv}
use Rattle.std.specs.Cmp.Lexicographic.{nat_list_cmp_total}
use Rattle.std.specs.Option.{option_map}
use Rattle.std.specs.Ordering.{eq_by_cmp, is_eq, is_lt}
use Rattle.std.proofs.Math.Facts.{and_yes, yes_and}
use Rattle.overlay.specs.Overlay.{Changes}
use Rattle.rv_ledger.proofs.Entries.{get_value, key_cmp-IsAntisymmetric, one_set}
use Rattle.rv_ledger.proofs.SortedKeys.{less}
use Rattle.rv_ledger.specs.Change.{Content, ContentChange}
use Rattle.rv_ledger.specs.Key.{WriteMap, key_cmp}
use Rattle.host_block.specs.Changes.{listed_changes, resolved}
use Rattle.host_block.specs.Ordered.{sum_keys}
use Rattle.host_block.specs.Positions.{IsSlotPlaced, IsSlotSetAt, SlotList, slot_at_key, slot_or_none, with_base, with_change}
use Rattle.host_block.specs.Slots.{AreSlots, SlotMap, TouchedView, slot_base, slot_change, part_map, slot_parts, touched_view, with_part}
use Rattle.host_block.specs.declared.slot.Slot.{Slot}
use Rattle.host_block.proofs.Changing.{same_key}
use Rattle.host_block.proofs.Settling.{list_of}

find_below : {X : Type 0} (q : List ℕ) (es : List (List ℕ × X)) → T (below_all key_cmp q es) → find key_cmp q es ≡ None
find_below q [] h = refl
find_below q (e ∷ es) h =
    let both = and_yes (is_lt (key_cmp q e.0)) (below_all key_cmp q es) h in
    ap (λ r. cond (is_eq r) (Some e.1) (find key_cmp q es)) (less (key_cmp q e.0) both.0) ∙ find_below q es both.1

-- the key of the first entry is not among the others
first_only : {X : Type 0} (e : List ℕ × X) (es : List (List ℕ × X)) (q : List ℕ) → T (is_sorted key_cmp (e ∷ es)) → eq_by_cmp key_cmp q e.0 ≡ true → find key_cmp q es ≡ None
first_only e es q h same =
    let both = and_yes (below_all key_cmp e.0 es) (is_sorted key_cmp es) h in
    ap (λ k. find key_cmp k es) (same_key q e.0 same) ∙ find_below e.0 es both.0

rest_sorted : {X : Type 0} (e : List ℕ × X) (es : List (List ℕ × X)) → T (is_sorted key_cmp (e ∷ es)) → T (is_sorted key_cmp es)
rest_sorted e es h = (and_yes (below_all key_cmp e.0 es) (is_sorted key_cmp es) h).1

-- ---- a part of slots

module _ {X : Type 0} (part : Option Slot → Option X) (none : part None ≡ None) where
  below_parts : (k : List ℕ) (es : SlotList) → T (below_all key_cmp k es) → T (below_all key_cmp k (slot_parts part es))
  below_parts k [] h = tt
  below_parts k (e ∷ es) h = let both = and_yes (is_lt (key_cmp k e.0)) (below_all key_cmp k es) h in by (part (Some e.1)) both.0 (below_parts k es both.1)
    where
      by : (o : Option X) → T (is_lt (key_cmp k e.0)) → T (below_all key_cmp k (slot_parts part es)) → T (below_all key_cmp k (with_part e.0 o (slot_parts part es)))
      by None first rest = rest
      by (Some x) first rest = yes_and _ _ first rest

  sorted_parts : (es : SlotList) → T (is_sorted key_cmp es) → T (is_sorted key_cmp (slot_parts part es))
  sorted_parts [] h = tt
  sorted_parts (e ∷ es) h = let both = and_yes (below_all key_cmp e.0 es) (is_sorted key_cmp es) h in by (part (Some e.1)) both.0 (sorted_parts es both.1)
    where
      by : (o : Option X) → T (below_all key_cmp e.0 es) → T (is_sorted key_cmp (slot_parts part es)) → T (is_sorted key_cmp (with_part e.0 o (slot_parts part es)))
      by None first rest = rest
      by (Some x) first rest = yes_and _ _ (below_parts e.0 es first) rest

  find_part : (es : SlotList) → T (is_sorted key_cmp es) → (q : List ℕ) → find key_cmp q (slot_parts part es) ≡ part (find key_cmp q es)
  find_part [] h q = sym none
  find_part (e ∷ es) h q = by (find_part es (rest_sorted e es h) q) (part (Some e.1)) refl (eq_by_cmp key_cmp q e.0) refl
    where
      by : find key_cmp q (slot_parts part es) ≡ part (find key_cmp q es) → (o : Option X) → part (Some e.1) ≡ o → (b : Bool) → eq_by_cmp key_cmp q e.0 ≡ b → find key_cmp q (with_part e.0 o (slot_parts part es)) ≡ part (cond b (Some e.1) (find key_cmp q es))
      by rest None is true same = rest ∙ ap part (first_only e es q h same) ∙ none ∙ sym is
      by rest None is false same = rest
      by rest (Some x) is true same = ap (λ b. cond b (Some x) (find key_cmp q (slot_parts part es))) same ∙ sym is
      by rest (Some x) is false same = ap (λ b. cond b (Some x) (find key_cmp q (slot_parts part es))) same ∙ rest

  -- what the part of slots has at a key
  get_part : (m : SlotMap) (q : List ℕ) → get (part_map part m) q ≡ part (get m q)
  get_part m q = get-from_entries nat_list_cmp_total (slot_parts part (entries m)) q ∙ find_part (entries m) (entries_sorted m) q ∙ ap part (sym (get-entries m q))

  -- its entries are those of the slots that have it
  pub entries_part : (m : SlotMap) → entries (part_map part m) ≡ slot_parts part (entries m)
  entries_part m =
      let es : List (List ℕ × X) = slot_parts part (entries m) in
      let test : T (is_sorted key_cmp es) = sorted_parts (entries m) (entries_sorted m) in
      ap entries (same_map nat_list_cmp_total key_cmp-IsAntisymmetric (from_entries es) (from_sorted es) (λ q. get-from_entries nat_list_cmp_total es q ∙ sym (get-from_sorted key_cmp es q test)))
      ∙ entries-from_sorted key_cmp es test

  -- a slot with another part was set
  part_set : (m : SlotMap) (key : List ℕ) (slot : Slot) (x : X) → part (Some slot) ≡ Some x → part_map part (insert m key slot) ≡ insert (part_map part m) key x
  part_set m key slot x is = same_map nat_list_cmp_total key_cmp-IsAntisymmetric _ _ (λ q.
      get_part (insert m key slot) q ∙ ap part (get-insert nat_list_cmp_total m key slot q) ∙ by q (eq_by_cmp key_cmp q key)
      ∙ sym (get-insert nat_list_cmp_total (part_map part m) key x q ∙ ap (cond (eq_by_cmp key_cmp q key) (Some x)) (get_part m q)))
    where
      by : (q : List ℕ) (b : Bool) → part (cond b (Some slot) (get m q)) ≡ cond b (Some x) (part (get m q))
      by q true = is
      by q false = refl

  -- a slot with the same part was set
  part_kept : (m : SlotMap) (key : List ℕ) (slot : Slot) → part (Some slot) ≡ part (get m key) → part_map part (insert m key slot) ≡ part_map part m
  part_kept m key slot is = same_map nat_list_cmp_total key_cmp-IsAntisymmetric _ _ (λ q.
      get_part (insert m key slot) q ∙ ap part (get-insert nat_list_cmp_total m key slot q) ∙ by q (eq_by_cmp key_cmp q key) refl ∙ sym (get_part m q))
    where
      by : (q : List ℕ) (b : Bool) → eq_by_cmp key_cmp q key ≡ b → part (cond b (Some slot) (get m q)) ≡ part (get m q)
      by q true same = is ∙ ap (λ k. part (get m k)) (sym (same_key q key same))
      by q false same = refl

  part_of_none : part_map part (from_entries []) ≡ empty
  part_of_none = same_map nat_list_cmp_total key_cmp-IsAntisymmetric _ _ (λ q. get_part (from_entries []) q ∙ ap part (get_value [] q) ∙ none ∙ sym (get-empty key_cmp q))

-- ---- the keys that were touched

base_or_none : (o : Option Slot) → (slot_or_none o).base ≡ slot_base o
base_or_none None = refl
base_or_none (Some slot) = refl

change_or_none : (o : Option Slot) → (slot_or_none o).change ≡ slot_change o
change_or_none None = refl
change_or_none (Some slot) = refl

same_base : (es : SlotList) (key : List ℕ) → (slot_or_none (slot_at_key es key)).base ≡ slot_base (get {R = key_cmp} (from_entries es) key)
same_base es key = base_or_none (slot_at_key es key) ∙ sym (ap slot_base (get_value es key))

same_change : (es : SlotList) (key : List ℕ) → (slot_or_none (slot_at_key es key)).change ≡ slot_change (get {R = key_cmp} (from_entries es) key)
same_change es key = change_or_none (slot_at_key es key) ∙ sym (ap slot_change (get_value es key))

abbrev view_of : Changes → WriteMap → TouchedView
view_of bases changes = record { bases = bases; changes = changes }

views : (bases bases' : Changes) (changes changes' : WriteMap) → bases ≡ bases' → changes ≡ changes' → view_of bases changes ≡ view_of bases' changes'
views bases bases' changes changes' b c = ap (λ (m : Changes). view_of m changes) b ∙ ap (view_of bases') c

pub none_touched : (es : SlotList) → es ≡ [] → touched_view (from_entries es) ≡ view_of empty empty
none_touched es is = ap (λ (xs : SlotList). touched_view (from_entries xs)) is ∙ views _ _ _ _ (part_of_none slot_base refl) (part_of_none slot_change refl)

placed_same : (es fs : SlotList) (key : List ℕ) → IsSlotPlaced es fs key → touched_view (from_entries fs) ≡ touched_view (from_entries es)
placed_same es fs key h =
    let slot : Slot = slot_or_none (slot_at_key es key) in
    ap touched_view (one_set es fs key slot h)
    ∙ views _ _ _ _ (part_kept slot_base refl (from_entries es) key slot (same_base es key)) (part_kept slot_change refl (from_entries es) key slot (same_change es key))

-- the slot of a key has what is known of it
pub base_found : (es : SlotList) (touched : TouchedView) (key : List ℕ) (found : Option Slot) → found ≡ slot_at_key es key → touched_view (from_entries es) ≡ touched → slot_base found ≡ get touched.bases key
base_found es touched key found is view = ap slot_base (is ∙ sym (get_value es key)) ∙ sym (get_part slot_base refl (from_entries es) key) ∙ ap (λ (t : TouchedView). get t.bases key) view

-- and its change
pub change_found : (es : SlotList) (touched : TouchedView) (key : List ℕ) (found : Option Slot) → found ≡ slot_at_key es key → touched_view (from_entries es) ≡ touched → slot_change found ≡ get touched.changes key
change_found es touched key found is view = ap slot_change (is ∙ sym (get_value es key)) ∙ sym (get_part slot_change refl (from_entries es) key) ∙ ap (λ (t : TouchedView). get t.changes key) view

-- a key got no slot or its first one, if memory ran out or not
pub placed_or_same : (tried : Result ℕ AllocError) (es fs : SlotList) (key : List ℕ) → OnOk tried (IsSlotPlaced es fs key) → OnErr tried (fs ≡ es)
    → touched_view (from_entries fs) ≡ touched_view (from_entries es)
placed_or_same (Ok position) es fs key placed same = placed_same es fs key placed
placed_or_same (Err refused) es fs key placed same = ap (λ (xs : SlotList). touched_view (from_entries xs)) same

pub base_set : (es fs : SlotList) (key : List ℕ) (content : Content) → IsSlotSetAt es fs key (with_base content (slot_at_key es key))
    → touched_view (from_entries fs) ≡ view_of (insert (part_map slot_base (from_entries es)) key content) (part_map slot_change (from_entries es))
base_set es fs key content h =
    let slot : Slot = with_base content (slot_at_key es key) in
    ap touched_view (one_set es fs key slot h)
    ∙ views _ _ _ _ (part_set slot_base refl (from_entries es) key slot content refl) (part_kept slot_change refl (from_entries es) key slot (same_change es key))

pub change_set : (es fs : SlotList) (key : List ℕ) (change : ContentChange) → IsSlotSetAt es fs key (with_change change (slot_at_key es key))
    → touched_view (from_entries fs) ≡ view_of (part_map slot_base (from_entries es)) (insert (part_map slot_change (from_entries es)) key change)
change_set es fs key change h =
    let slot : Slot = with_change change (slot_at_key es key) in
    ap touched_view (one_set es fs key slot h)
    ∙ views _ _ _ _ (part_kept slot_base refl (from_entries es) key slot (same_base es key)) (part_set slot_change refl (from_entries es) key slot change refl)

-- ---- the list of the result

-- what a slot lists
abbrev pub listed_in : Option Slot → Option Content
listed_in None = None
listed_in (Some slot) = option_map (λ change. resolved change slot.base) slot.change

abbrev HasBases : Changes → SlotList → Type 0
HasBases bases es = (q : List ℕ) (slot : Slot) → find key_cmp q es ≡ Some slot → get bases q ≡ slot.base

rest_bases : (bases : Changes) (e : List ℕ × Slot) (es : SlotList) → T (is_sorted key_cmp (e ∷ es)) → HasBases bases (e ∷ es) → HasBases bases es
rest_bases bases e es h has q slot found = by (eq_by_cmp key_cmp q e.0) refl
  where
    by : (b : Bool) → eq_by_cmp key_cmp q e.0 ≡ b → get bases q ≡ slot.base
    by true same = let none : find key_cmp q es ≡ None = first_only e es q h same in cc
    by false other = has q slot (ap (λ b. cond b (Some e.1) (find key_cmp q es)) other ∙ found)

listed_each : (bases : Changes) (es : SlotList) → T (is_sorted key_cmp es) → HasBases bases es → slot_parts listed_in es ≡ list_of bases (slot_parts slot_change es)
listed_each bases [] h has = refl
listed_each bases ((key, slot) ∷ es) h has = by (listed_each bases es (rest_sorted (key, slot) es h) (rest_bases bases (key, slot) es h has)) slot.change refl
  where
    here : get bases key ≡ slot.base
    here = has key slot (ap (λ b. cond b (Some slot) (find key_cmp key es)) ((eq_by_cmp_equiv nat_list_cmp_total).refl key))

    by : slot_parts listed_in es ≡ list_of bases (slot_parts slot_change es) → (o : Option ContentChange) → slot.change ≡ o → with_part key (option_map (λ change. resolved change slot.base) o) (slot_parts listed_in es) ≡ list_of bases (with_part key o (slot_parts slot_change es))
    by rest None is = rest
    by rest (Some change) is = ap (λ (b : Option Content). (key, resolved change b) ∷ slot_parts listed_in es) (sym here) ∙ ap (λ (xs : List (List ℕ × Content)). (key, resolved change (get bases key)) ∷ xs) rest

-- the slots list the changes of the result
pub listed_slots : (m : SlotMap) → slot_parts listed_in (entries m) ≡ listed_changes (part_map slot_base m) (part_map slot_change m)
listed_slots m =
    listed_each (part_map slot_base m) (entries m) (entries_sorted m) (λ q slot found. get_part slot_base refl m q ∙ ap slot_base (get-entries m q ∙ found))
    ∙ ap (list_of (part_map slot_base m)) (sym (entries_part slot_change refl m))

pub listed_at_start : (es : SlotList) (touched : TouchedView) → AreSlots es touched → slot_parts listed_in es ≡ listed_changes touched.bases touched.changes
listed_at_start es touched are = ap (slot_parts listed_in) are.1 ∙ listed_slots are.0 ∙ ap (λ (t : TouchedView). listed_changes t.bases t.changes) (sym are.2)

pub sums_at_start : (es : SlotList) (touched : TouchedView) → AreSlots es touched → sum_keys (slot_parts slot_change es) ≡ sum_keys (entries touched.changes)
sums_at_start es touched are =
    ap (λ (xs : SlotList). sum_keys (slot_parts slot_change xs)) are.1 ∙ ap sum_keys (sym (entries_part slot_change refl are.0)) ∙ ap (λ (t : TouchedView). sum_keys (entries t.changes)) (sym are.2)
