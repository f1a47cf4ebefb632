-- Positions of keys in a list of entries: the position of each key, and what an edit does to the entries by key.
use Rattle.std.proofs.Common.{◌≡◌, ◌≢◌, ◌<◌, ◌⊎◌, ◌++◌, ℕ, suc, zero, Bool, true, false, cond, List, [], ◌∷◌, length, set, get_or, slice_get, Option, None, Some, refl, sym, ap, subst, ◌∙◌, arith, inl, inr}
use mathlib.Core.Bool.{false≢true}
use Rattle.std.specs.BTreeMap.{is_at}
use Rattle.std.specs.Cmp.{tied_itself}
use Rattle.std.specs.Cmp.Lexicographic.{nat_list_cmp_total}
use Rattle.std.specs.List.{All}
use Rattle.std.specs.List.Sorted.{IsStrictlySortedBy}
use Rattle.std.specs.Map.{keys_of, lookup}
use Rattle.std.specs.Option.{option_map, unwrap_or}
use Rattle.std.specs.Ordering.{is_eq}
use Rattle.std.proofs.lemmas.Bool.{cases_eq}
use Rattle.std.proofs.lemmas.Map.Lookups.{exact_bytes}
use Rattle.std.proofs.lemmas.Map.Made.{keys_of-map_values, lookup-map_values}
use Rattle.std.proofs.lemmas.Map.Views.{tells_apart}
use Rattle.std.proofs.lemmas.Option.{slice_get-get_or}
use Rattle.rv_ledger.specs.Key.{key_cmp}
use Rattle.rv_ledger.specs.Positions.{AreIndexed, AreWithin, EntryList, IsSetAt, Positions, in_order, key_at, position_of, value_in}

-- ---- keys

-- a key is found equal to itself
pub key_itself : (key : List ℕ) → is_at (key_cmp key) key ≡ true
key_itself key = ap is_eq (tied_itself nat_list_cmp_total key)

-- keys that a test finds equal are one key
pub same_key : (key q : List ℕ) → is_at (key_cmp key) q ≡ true → key ≡ q
same_key key q h = tells_apart exact_bytes key q h

-- a key that a test finds different is another
pub other_key : (key q : List ℕ) → is_at (key_cmp key) q ≡ false → key ≡ q → ⊥
other_key key q h e = false≢true (sym h ∙ ap (is_at (key_cmp key)) (sym e) ∙ key_itself key)

-- ---- a list, one element of which was replaced, or that has one more

pub get_set_here : {A : Type 0} (list : List A) (p : ℕ) (s : A) → p < length list → slice_get (set list p s) p ≡ Some s
get_set_here [] p s l = absurd (omega arith)
get_set_here (x ∷ list) zero s l = refl
get_set_here (x ∷ list) (suc p) s l = get_set_here list p s (omega arith)

pub get_set_apart : {A : Type 0} (list : List A) (p q : ℕ) (s : A) → p ≢ q → slice_get (set list p s) q ≡ slice_get list q
get_set_apart [] p q s ne = refl
get_set_apart (x ∷ list) zero zero s ne = absurd (ne refl)
get_set_apart (x ∷ list) zero (suc q) s ne = refl
get_set_apart (x ∷ list) (suc p) zero s ne = refl
get_set_apart (x ∷ list) (suc p) (suc q) s ne = get_set_apart list p q s (λ e. ne (ap suc e))

-- the elements before one that was added last
pub slice_get_before : {X : Type 0} (xs : List X) (x : X) (i : ℕ) → i < length xs → slice_get (xs ++ x ∷ []) i ≡ slice_get xs i
slice_get_before [] x i l = absurd (omega arith)
slice_get_before (y ∷ xs) x zero l = refl
slice_get_before (y ∷ xs) x (suc i) l = slice_get_before xs x i (omega arith)

-- the element that was added last
pub slice_get_last : {X : Type 0} (xs : List X) (x : X) → slice_get (xs ++ x ∷ []) (length xs) ≡ Some x
slice_get_last [] x = refl
slice_get_last (y ∷ xs) x = slice_get_last xs x

-- ---- the entries by key

-- what is looked up by key is at the key's position
pub lookup_in_order : (ps : Positions) (list : EntryList) (q : List ℕ) → lookup (is_at (key_cmp q)) (in_order ps list) ≡ option_map (value_in list) (position_of ps q)
lookup_in_order ps list q = lookup-map_values (value_in list) (is_at (key_cmp q)) ps

-- the keys ascend there too
pub in_order_sorted : (ps : Positions) (list : EntryList) → IsStrictlySortedBy key_cmp (keys_of ps) → IsStrictlySortedBy key_cmp (keys_of (in_order ps list))
in_order_sorted ps list up = subst (λ (ks : List (List ℕ)). IsStrictlySortedBy key_cmp ks) (sym (keys_of-map_values (value_in list) ps)) up

-- ---- the list

-- a position with a key is one of the list
pub key_within : (list : EntryList) (p : ℕ) (key : List ℕ) → key_at list p ≡ Some key → p < length list
key_within [] p key h = cc
key_within (e ∷ list) zero key h = omega arith
key_within (e ∷ list) (suc p) key h = let l = key_within list p key h in omega arith

-- the key of what was found at a position
pub key_found : (list : EntryList) (p : ℕ) (e : List ℕ × List ℕ) → p < length list → e ≡ get_or list p e → key_at list p ≡ Some e.0
key_found list p e l is = ap (option_map (λ (x : List ℕ × List ℕ). x.0)) (slice_get-get_or list p e l ∙ ap Some (sym is))

-- the value of what was found there
pub value_found : (list : EntryList) (p : ℕ) (e : List ℕ × List ℕ) → p < length list → e ≡ get_or list p e → value_in list p ≡ e.1
value_found list p e l is = ap (λ (x : Option (List ℕ × List ℕ)). unwrap_or (option_map (λ (y : List ℕ × List ℕ). y.1) x) []) (slice_get-get_or list p e l ∙ ap Some (sym is))

-- the position of a key is within the list
pub position_within : (ps : Positions) (list : EntryList) → AreIndexed ps list → (key : List ℕ) (p : ℕ) → position_of ps key ≡ Some p → p < length list
position_within ps list h key p at = key_within list p key (h.listed key p at)

-- so all positions are within it, if a look-up finds each
pub all_within : (ps : Positions) (list : EntryList) → AreIndexed ps list → All (λ e. position_of ps e.0 ≡ Some e.1) ps → AreWithin ps list
all_within ps list h found k d l = position_within ps list h (get_or ps k d).0 (get_or ps k d).1 (found k d l)

-- ---- the value at a position is replaced

module _ (ps : Positions) (list : EntryList) (h : AreIndexed ps list) (key : List ℕ) (p : ℕ) (at : position_of ps key ≡ Some p) (value : List ℕ) where
  abbrev now : EntryList
  now = set list p (key, value)

  here : slice_get now p ≡ Some (key, value)
  here = get_set_here list p (key, value) (position_within ps list h key p at)

  key_kept : (q : ℕ) → key_at now q ≡ key_at list q
  key_kept q = elim (cases_eq p q) [
    | inl e ↦ ap (key_at now) (sym e) ∙ ap (option_map (λ (x : List ℕ × List ℕ). x.0)) here ∙ sym (h.listed key p at) ∙ ap (key_at list) e
    | inr ne ↦ ap (option_map (λ (x : List ℕ × List ℕ). x.0)) (get_set_apart list p q (key, value) ne)
  ]

  -- the keys stay at their positions
  set_indexed : AreIndexed ps (set list p (key, value))
  set_indexed = record {
    listed = λ k q e. key_kept q ∙ h.listed k q e;
    indexed = λ k q e. h.indexed k q (sym (key_kept q) ∙ e);
  }

  -- only the value of that key changes
  set_in_order : IsSetAt (in_order ps list) (in_order ps (set list p (key, value))) key value
  set_in_order q =
      lookup_in_order ps now q
      ∙ by (is_at (key_cmp key) q) refl (position_of ps q) refl
      ∙ ap (cond (is_at (key_cmp key) q) (Some value)) (sym (lookup_in_order ps list q))
    where
      by : (b : Bool) → is_at (key_cmp key) q ≡ b → (o : Option ℕ) → position_of ps q ≡ o → option_map (value_in now) o ≡ cond b (Some value) (option_map (value_in list) o)
      by true t o e =
          ap (option_map (value_in now)) (sym e ∙ ap (position_of ps) (sym (same_key key q t)) ∙ at)
          ∙ ap (λ (x : Option (List ℕ × List ℕ)). Some (unwrap_or (option_map (λ (y : List ℕ × List ℕ). y.1) x) [])) here
      by false t None e = refl
      by false t (Some r) e =
          ap (λ (x : Option (List ℕ × List ℕ)). Some (unwrap_or (option_map (λ (y : List ℕ × List ℕ). y.1) x) [])) (get_set_apart list p r (key, value) (λ same.
          let one : Some key ≡ Some q = sym (h.listed key p at) ∙ ap (key_at list) same ∙ h.listed q r e in
          absurd (other_key key q t cc)))

  -- both hold with the key of the entry that was read there
  pub put_there : (e : List ℕ × List ℕ) → e ≡ get_or list p e → AreIndexed ps (set list p (e.0, value)) × IsSetAt (in_order ps list) (in_order ps (set list p (e.0, value))) key value
  put_there e is =
      let found : Some e.0 ≡ Some key = sym (key_found list p e (position_within ps list h key p at) is) ∙ h.listed key p at in
      let same : e.0 ≡ key = cc in
      rw same (set_indexed, set_in_order)

-- ---- a key is added at the end

module _ (ps after : Positions) (list : EntryList) (h : AreIndexed ps list) (key value : List ℕ) (absent : position_of ps key ≡ None) (n : ℕ) (last : n ≡ length list)
    (added : (q : List ℕ) → position_of after q ≡ cond (is_at (key_cmp key) q) (Some n) (position_of ps q)) where
  added_at : position_of after key ≡ Some n
  added_at = added key ∙ ap (λ b. cond b (Some n) (position_of ps key)) (key_itself key)

  at_end : slice_get (list ++ (key, value) ∷ []) n ≡ Some (key, value)
  at_end = ap (slice_get (list ++ (key, value) ∷ [])) last ∙ slice_get_last list (key, value)

  was_or_last : (xs : EntryList) (p : ℕ) (q : List ℕ) → key_at (xs ++ (key, value) ∷ []) p ≡ Some q → (key_at xs p ≡ Some q) ⊎ ((p ≡ length xs) × (key ≡ q))
  was_or_last [] zero q e = let same : Some key ≡ Some q = e in inr (refl, cc)
  was_or_last [] (suc p) q e = cc
  was_or_last (x ∷ xs) zero q e = inl e
  was_or_last (x ∷ xs) (suc p) q e = elim (was_or_last xs p q e) [ inl was ↦ inl was | inr both ↦ inr (ap suc both.0, both.1) ]

  -- each key is at its position
  pub added_indexed : AreIndexed after (list ++ (key, value) ∷ [])
  added_indexed = record {
    listed = λ q p e. listed_by q p (is_at (key_cmp key) q) refl (sym (added q) ∙ e);
    indexed = λ q p e. elim (was_or_last list p q e) [
      | inl was ↦ indexed_by q p (is_at (key_cmp key) q) refl (h.indexed q p was)
      | inr both ↦ ap (position_of after) (sym both.1) ∙ added_at ∙ ap Some (last ∙ sym both.0)
    ];
  }
    where
      listed_by : (q : List ℕ) (p : ℕ) (b : Bool) → is_at (key_cmp key) q ≡ b → cond b (Some n) (position_of ps q) ≡ Some p → key_at (list ++ (key, value) ∷ []) p ≡ Some q
      listed_by q p true t e = let here : n ≡ p = cc in ap (key_at (list ++ (key, value) ∷ [])) (sym here) ∙ ap (option_map (λ (x : List ℕ × List ℕ). x.0)) at_end ∙ ap Some (same_key key q t)
      listed_by q p false t e = ap (option_map (λ (x : List ℕ × List ℕ). x.0)) (slice_get_before list (key, value) p (key_within list p q (h.listed q p e))) ∙ h.listed q p e

      indexed_by : (q : List ℕ) (p : ℕ) (b : Bool) → is_at (key_cmp key) q ≡ b → position_of ps q ≡ Some p → position_of after q ≡ Some p
      indexed_by q p true t was = let none : position_of ps q ≡ None = ap (position_of ps) (sym (same_key key q t)) ∙ absent in cc
      indexed_by q p false t was = added q ∙ ap (λ b. cond b (Some n) (position_of ps q)) t ∙ was

  -- it has its value, and the values of the other keys stay
  pub added_in_order : IsSetAt (in_order ps list) (in_order after (list ++ (key, value) ∷ [])) key value
  added_in_order q =
      lookup_in_order after (list ++ (key, value) ∷ []) q
      ∙ ap (option_map (value_in (list ++ (key, value) ∷ []))) (added q)
      ∙ by (is_at (key_cmp key) q) (position_of ps q) refl
      ∙ ap (cond (is_at (key_cmp key) q) (Some value)) (sym (lookup_in_order ps list q))
    where
      by : (b : Bool) (o : Option ℕ) → position_of ps q ≡ o → option_map (value_in (list ++ (key, value) ∷ [])) (cond b (Some n) o) ≡ cond b (Some value) (option_map (value_in list) o)
      by true o e = ap (λ (x : Option (List ℕ × List ℕ)). Some (unwrap_or (option_map (λ (y : List ℕ × List ℕ). y.1) x) [])) at_end
      by false None e = refl
      by false (Some p) e =
          ap (λ (x : Option (List ℕ × List ℕ)). Some (unwrap_or (option_map (λ (y : List ℕ × List ℕ). y.1) x) [])) (slice_get_before list (key, value) p (key_within list p q (h.listed q p e)))
