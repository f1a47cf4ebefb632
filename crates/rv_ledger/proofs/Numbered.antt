-- A list of entries whose keys ascend, each key numbered by its position.
use Rattle.std.proofs.Common.{◌≡◌, ◌<◌, ◌+◌, ◌++◌, ℕ, suc, zero, Bool, true, false, cond, List, [], ◌∷◌, length, map, slice_get, Some, None, refl, sym, ap, subst, ◌∙◌, arith}
use Rattle.std.specs.BTreeMap.{is_at}
use Rattle.std.specs.Cmp.{eq_by_cmp_equiv}
use Rattle.std.specs.Cmp.Lexicographic.{nat_list_cmp_total}
use Rattle.std.specs.FinMap.{from_entries}
use Rattle.std.specs.List.{IsDistinct}
use Rattle.std.specs.Map.{keys_of, lookup, update_all}
use Rattle.std.specs.Option.{option_map}
use Rattle.std.specs.Ordering.{eq_by_cmp}
use Rattle.std.proofs.lemmas.Map.Entries.{lookup_from_place}
use Rattle.std.proofs.lemmas.Map.Keys.{IsDistinct-from_sorted}
use Rattle.std.proofs.lemmas.Map.Made.{lookup-map_values, update_all_none}
use Rattle.rv_ledger.specs.Entries.{AreAscending}
use Rattle.rv_ledger.specs.Inserted.{inserted}
use Rattle.rv_ledger.specs.Key.{key_cmp}
use Rattle.rv_ledger.specs.Positions.{AreIndexed, EntryList, Positions, in_order, key_at, position_of, value_in}
use Rattle.rv_ledger.proofs.Entries.{all_inserted}
use Rattle.rv_ledger.proofs.Positions.{lookup_in_order, same_key}

-- the position of each key in a list, the first one at position n
abbrev pub numbered : ℕ → EntryList → Positions
numbered n [] = []
numbered n (e ∷ list) = (e.0, n) ∷ numbered (suc n) list

pub numbered_push : (n : ℕ) (list : EntryList) (e : List ℕ × List ℕ) → numbered n (list ++ e ∷ []) ≡ numbered n list ++ (e.0, n + length list) ∷ []
numbered_push n [] e = ap (λ (p : ℕ). (e.0, p) ∷ []) (omega arith)
numbered_push n (x ∷ list) e = ap (λ (ps : Positions). (x.0, n) ∷ ps) (numbered_push (suc n) list e ∙ ap (λ (p : ℕ). numbered (suc n) list ++ (e.0, p) ∷ []) (omega arith))

keys_numbered : (n : ℕ) (list : EntryList) → keys_of (numbered n list) ≡ keys_of list
keys_numbered n [] = refl
keys_numbered n (e ∷ list) = ap (λ (ks : List (List ℕ)). e.0 ∷ ks) (keys_numbered (suc n) list)

numbered_at : (n : ℕ) (list : EntryList) (i p : ℕ) (key : List ℕ) → key_at list i ≡ Some key → p ≡ n + i → slice_get (numbered n list) i ≡ Some (key, p)
numbered_at n [] i p key h is = cc
numbered_at n (e ∷ list) zero p key h is =
    let same : e.0 ≡ key = cc in
    let first : n ≡ p = omega arith in
    λ j. Some (same j, first j)
numbered_at n (e ∷ list) (suc i) p key h is = numbered_at (suc n) list i p key h (omega arith)

-- a key that is looked up is at the position of its number
numbered_from : (n : ℕ) (list : EntryList) (q : List ℕ) (p : ℕ) → lookup (is_at (key_cmp q)) (numbered n list) ≡ Some p → (i : ℕ) × (p ≡ n + i) × (key_at list i ≡ Some q)
numbered_from n [] q p h = cc
numbered_from n (e ∷ list) q p h = by (is_at (key_cmp q) e.0) refl (numbered_from (suc n) list q p) h
  where
    by : (b : Bool) → is_at (key_cmp q) e.0 ≡ b
        → (lookup (is_at (key_cmp q)) (numbered (suc n) list) ≡ Some p → (i : ℕ) × (p ≡ suc n + i) × (key_at list i ≡ Some q))
        → cond b (Some n) (lookup (is_at (key_cmp q)) (numbered (suc n) list)) ≡ Some p → (i : ℕ) × (p ≡ n + i) × (key_at (e ∷ list) i ≡ Some q)
    by true t rest f = let first : n ≡ p = cc in (0, omega arith, ap Some (sym (same_key q e.0 t)))
    by false t rest f = let found = rest f in (suc found.0, omega (arith, found.1), found.2)

renumbered : (f : ℕ → List ℕ) (n : ℕ) (list : EntryList) → ((i : ℕ) → i < length list → f (n + i) ≡ value_in list i) → map (λ e. (e.0, f e.1)) (numbered n list) ≡ list
renumbered f n [] h = refl
renumbered f n (e ∷ list) h =
    let first : n ≡ n + 0 = omega arith in
    let value : f n ≡ e.1 = ap f first ∙ h 0 (omega arith) in
    let rest : map (λ x. (x.0, f x.1)) (numbered (suc n) list) ≡ list = renumbered f (suc n) list (λ i l. let next : suc n + i ≡ n + suc i = omega arith in ap f next ∙ h (suc i) (omega arith)) in
    λ j. (e.0, value j) ∷ rest j

module _ (list : EntryList) (up : AreAscending list) where
  distinct : IsDistinct (eq_by_cmp key_cmp) (keys_of list)
  distinct = IsDistinct-from_sorted key_cmp (keys_of list) up

  distinct_numbered : IsDistinct (eq_by_cmp key_cmp) (keys_of (numbered 0 list))
  distinct_numbered = subst (λ (ks : List (List ℕ)). IsDistinct (eq_by_cmp key_cmp) ks) (sym (keys_numbered 0 list)) distinct

  module _ (tree : Positions) (made : (q : List ℕ) → position_of tree q ≡ update_all (eq_by_cmp key_cmp) (λ _. None) (numbered 0 list) q) where
    looked_up : (q : List ℕ) → position_of tree q ≡ lookup (is_at (key_cmp q)) (numbered 0 list)
    looked_up q = made q ∙ update_all_none (eq_by_cmp_equiv nat_list_cmp_total) (eq_by_cmp key_cmp) (λ x y. refl) (numbered 0 list) q distinct_numbered

    -- a tree that is made of the numbers has the position of each key
    pub numbered_indexed : AreIndexed tree list
    numbered_indexed = record {
      listed = λ q p e.
          let from = numbered_from 0 list q p (sym (looked_up q) ∙ e) in
          let same : p ≡ from.0 = omega (arith, from.1) in
          ap (key_at list) same ∙ from.2;
      indexed = λ q p e.
          looked_up q ∙ lookup_from_place (eq_by_cmp_equiv nat_list_cmp_total) (numbered 0 list) p q p distinct_numbered (numbered_at 0 list p p q e (omega arith));
    }

    same_values : (q : List ℕ) → lookup (is_at (key_cmp q)) (in_order tree list) ≡ update_all (eq_by_cmp key_cmp) (λ _. None) list q
    same_values q =
        lookup_in_order tree list q
        ∙ ap (λ o. option_map (value_in list) o) (looked_up q)
        ∙ sym (lookup-map_values (value_in list) (is_at (key_cmp q)) (numbered 0 list))
        ∙ ap (lookup (is_at (key_cmp q))) (renumbered (value_in list) 0 list (λ i l. let same : 0 + i ≡ i = omega arith in ap (value_in list) same))
        ∙ sym (update_all_none (eq_by_cmp_equiv nat_list_cmp_total) (eq_by_cmp key_cmp) (λ x y. refl) list q distinct)

    -- and the entries by key are those of the list
    pub numbered_inserted : from_entries (in_order tree list) ≡ inserted list
    numbered_inserted = all_inserted list (in_order tree list) same_values
