-- Entries in an order of their keys: what a search finds among them, and what an edit does to them.
use Rattle.std.proofs.Common.{◌≡◌, ◌+◌, ℕ, zero, suc, true, if◌then◌else◌, List, [], ◌∷◌, length, get_or, set, Option, Some, None, is_some, Result, Ok, Err, IfOk, IfErr, refl, sym, ap, subst, ◌∙◌, arith}
use Rattle.std.specs.declared.cmp.Ordering.TheVariants.{Less, Greater}
use Rattle.std.specs.List.{insert, AllByRecursion}
use Rattle.std.specs.List.Sorted.{IsStrictlySortedBy, IsSearchInRange, IsBinarySearchResult, IsNonDecreasingBy, IsSortedBy}
use Rattle.std.specs.Ordering.{eq_by_cmp, is_eq, is_lt, ordering_index, ordering_reverse}
use Rattle.std.specs.Cmp.{IsEquivalence, IsTotalOrder, eq_by_cmp_equiv}
use Rattle.std.specs.FinMap.{IsAntisymmetric}
use Rattle.std.specs.declared.cmp.Ordering.{Ordering}
use Rattle.std.specs.BTreeMap.{is_at}
use Rattle.std.specs.Map.{keys_of, lookup, set_value}
use Rattle.std.proofs.Math.ListN.{get_or-map}
use Rattle.std.proofs.lemmas.Bool.{cond-true, cond-false}
use Rattle.std.proofs.lemmas.List.Edits.{length-insert}
use Rattle.std.proofs.lemmas.List.Sorted.{searchable_from_sorted}
use Rattle.std.proofs.lemmas.Map.{none_passes_from_lookup, lookup-insert, lookup-set_value, keys-set_value, length-set_value}
use Rattle.std.proofs.lemmas.Map.Entries.{length-keys_of, lookup_at_gap, lookup_from_place}
use Rattle.std.proofs.lemmas.Map.Keys.{Less-from_sorted, IsDistinct-from_sorted, sorted_tail}
use Rattle.std.proofs.lemmas.Option.{get_or_from_slice_get, slice_get_within, slice_get-get_or}
use Rattle.rv_ledger.specs.Entries.{IsAt, IsGapBy}

module _ {K : Type 0} {cmp : K → K → Ordering} (total : IsTotalOrder cmp) (exact : IsAntisymmetric cmp) where
  -- equality by the order is an equivalence
  same_key : IsEquivalence (eq_by_cmp cmp)
  same_key = eq_by_cmp_equiv total

  above : (key other : K) → cmp other key ≡ Less → cmp key other ≡ Greater
  above key other h = total.antisymm key other ∙ ap ordering_reverse h

  below : (key other : K) → cmp other key ≡ Greater → cmp key other ≡ Less
  below key other h = total.antisymm key other ∙ ap ordering_reverse h

  all_above : (key k : K) (ks : List K) → cmp key k ≡ Less → AllByRecursion (λ y. cmp k y ≡ Less) ks → AllByRecursion (λ y. cmp key y ≡ Less) ks
  all_above key k [] less h = tt
  all_above key k (x ∷ ks) less h = (total.trans key k x less h.0, all_above key k ks less h.1)

  module _ {X : Type 0} where
    -- the comparisons with a key rise along the entries, as a binary search requires
    rising : (es : List (K × X)) (key : K) → IsStrictlySortedBy cmp (keys_of es) → IsNonDecreasingBy (λ e. ordering_index (cmp e.0 key)) es
    rising es key up = searchable_from_sorted total (λ (e : K × X). e.0) es key sorted
      where
        sorted : IsSortedBy (λ (a b : K × X). is_lt (cmp a.0 b.0)) es
        sorted k d start lt =
            let key_at = λ (i : ℕ). get_or-map (λ (e : K × X). e.0) es i d in
            let less : cmp (get_or es k d).0 (get_or es (k + 1) d).0 ≡ Less =
            sym (λ i. cmp (key_at k i) (key_at (k + 1) i)) ∙ Less-from_sorted cmp (keys_of es) k (k + 1) d.0 up (omega arith) (omega (arith, length-keys_of es)) in
            ap is_lt (above (get_or es (k + 1) d).0 (get_or es k d).0 less)

    -- a binary search by key ends at the key's entry, or at the gap for it
    pub searched : (es : List (K × X)) (key : K) → IsStrictlySortedBy cmp (keys_of es) → (r : Result ℕ ℕ) → IsSearchInRange r (length es) → IsBinarySearchResult (λ e. cmp e.0 key) es r
        → record { found : IfOk r (IsAt es key); absent : IfErr r (IsGapBy cmp es key) }
    searched es key up (Ok i) in_range equal = record {
      found = record { in_range = in_range; of_key = λ d. exact _ _ (equal d) };
      absent = tt;
    }
    searched es key up (Err i) in_range parted =
        let point = parted (rising es key up) in
        record {
          found = tt;
          absent = record {
            in_range = in_range;
            lower_before = λ j e lt is. above key e.0 (ap (λ (x : K × X). cmp x.0 key) (sym (get_or_from_slice_get es j e e is)) ∙ point.0 j e (omega arith) lt);
            higher_at = λ e is. below key e.0 (ap (λ (x : K × X). cmp x.0 key) (sym (get_or_from_slice_get es i e e is)) ∙ point.1 i e (omega arith) (slice_get_within es i e is));
          };
        }

    -- a look-up of a key finds the value at the position of its entry
    pub there : (es : List (K × X)) (key : K) (i : ℕ) (d : K × X) → IsStrictlySortedBy cmp (keys_of es) → IsAt es key i → Some (get_or es i d).1 ≡ lookup (is_at (cmp key)) es
    there es key i d up at =
        let Has : K → Type 0 = λ k. Some (get_or es i d).1 ≡ lookup (is_at (cmp k)) es in
        subst Has (at.of_key d) (sym (lookup_from_place same_key es i (get_or es i d).0 (get_or es i d).1 (IsDistinct-from_sorted cmp (keys_of es) up) (slice_get-get_or es i d at.in_range)))

    -- a look-up of the key of a gap finds nothing
    pub absent : (es : List (K × X)) (key : K) (i : ℕ) → IsStrictlySortedBy cmp (keys_of es) → IsGapBy cmp es key i → lookup (is_at (cmp key)) es ≡ None
    absent es key i up gap = lookup_at_gap total key es i up gap.lower_before gap.higher_at

    -- ---- a change in place of another

    -- a write at the position of a key's entry sets the value of the key
    set_there : (es : List (K × X)) (key : K) (i : ℕ) (v : X) → IsStrictlySortedBy cmp (keys_of es) → IsAt es key i → set es i (key, v) ≡ set_value (is_at (cmp key)) es v
    set_there [] key i v up at = absurd (omega (arith, at.in_range))
    set_there (e ∷ es) key zero v up at =
        let same : e.0 ≡ key = at.of_key e in
        let hit : is_at (cmp key) e.0 ≡ true = subst (λ (k : K). is_at (cmp key) k ≡ true) (sym same) (same_key.refl key) in
        ap (λ (k : K). (k, v) ∷ es) (sym same) ∙ sym (cond-true _ _ _ hit)
    set_there (e ∷ es) key (suc i) v up at =
        let rest : IsAt es key i = record { in_range = omega (arith, at.in_range); of_key = at.of_key } in
        let less : cmp e.0 key ≡ Less = subst (λ (k : K). cmp e.0 k ≡ Less) (get_or-map (λ (x : K × X). x.0) es i e ∙ at.of_key e) (Less-from_sorted cmp (keys_of (e ∷ es)) 0 (suc i) e.0 up (omega arith) (omega (arith, length-keys_of es, at.in_range))) in
        ap (λ l. e ∷ l) (set_there es key i v (sorted_tail cmp e.0 (keys_of es) up) rest) ∙ sym (cond-false _ _ _ (ap is_eq (above key e.0 less)))

    module _ (es : List (K × X)) (key : K) (i : ℕ) (v : X) (up : IsStrictlySortedBy cmp (keys_of es)) (at : IsAt es key i) where
      pub ascending_set : IsStrictlySortedBy cmp (keys_of (set es i (key, v)))
      ascending_set = subst (λ (xs : List (K × X)). IsStrictlySortedBy cmp (keys_of xs)) (sym (set_there es key i v up at)) (subst (IsStrictlySortedBy cmp) (sym (keys-set_value (is_at (cmp key)) es v)) up)

      pub lookup_set : (q : K) → lookup (is_at (cmp q)) (set es i (key, v)) ≡ (if is_at (cmp key) q then Some v else lookup (is_at (cmp q)) es)
      lookup_set q =
          ap (lookup (is_at (cmp q))) (set_there es key i v up at)
          ∙ lookup-set_value same_key (is_at (cmp key)) (λ x y h. same_key.congr key x y h) q v es (ap is_some (sym (there es key i (key, v) up at)))

      pub length_set : length (set es i (key, v)) ≡ length es + (if is_some (lookup (is_at (cmp key)) es) then 0 else 1)
      length_set =
          let none : ℕ = 0 in let one : (if is_some (lookup (is_at (cmp key)) es) then 0 else 1) ≡ none = ap (λ (o : Option X). if is_some o then 0 else 1) (sym (there es key i (key, v) up at)) in
          omega (arith, one, ap length (set_there es key i v up at), length-set_value (is_at (cmp key)) es v)

    -- ---- a change in a gap

    all_inserted_below : (P : K → Type 0) (es : List (K × X)) (i : ℕ) (key : K) (v : X) → P key → AllByRecursion P (keys_of es) → AllByRecursion P (keys_of (insert es i (key, v)))
    all_inserted_below P es zero key v p h = (p, h)
    all_inserted_below P [] (suc i) key v p h = (p, h)
    all_inserted_below P (e ∷ es) (suc i) key v p h = (h.0, all_inserted_below P es i key v p h.1)

    pub ascending_insert : (es : List (K × X)) (key : K) (i : ℕ) (v : X) → IsStrictlySortedBy cmp (keys_of es) → IsGapBy cmp es key i → IsStrictlySortedBy cmp (keys_of (insert es i (key, v)))
    unfolding IsStrictlySortedBy
    ascending_insert [] key zero v up gap = (tt, tt)
    ascending_insert [] key (suc i) v up gap = (tt, tt)
    ascending_insert (e ∷ es) key zero v up gap = let less = gap.higher_at e refl in ((less, all_above key e.0 (keys_of es) less up.0), up)
    ascending_insert (e ∷ es) key (suc i) v up gap =
        let less : cmp e.0 key ≡ Less = below e.0 key (gap.lower_before 0 e (omega arith) refl) in
        let rest : IsGapBy cmp es key i = record { in_range = omega (arith, gap.in_range); lower_before = λ j x lt is. gap.lower_before (suc j) x (omega arith) is; higher_at = gap.higher_at } in
        (all_inserted_below (λ y. cmp e.0 y ≡ Less) es i key v less up.0, ascending_insert es key i v up.1 rest)

    module _ (es : List (K × X)) (key : K) (i : ℕ) (v : X) (up : IsStrictlySortedBy cmp (keys_of es)) (gap : IsGapBy cmp es key i) where
      pub lookup_insert : (q : K) → lookup (is_at (cmp q)) (insert es i (key, v)) ≡ (if is_at (cmp key) q then Some v else lookup (is_at (cmp q)) es)
      lookup_insert q = lookup-insert same_key key v q es i (none_passes_from_lookup (is_at (cmp key)) es (absent es key i up gap))

      pub length_insert : length (insert es i (key, v)) ≡ length es + (if is_some (lookup (is_at (cmp key)) es) then 0 else 1)
      length_insert =
          let one : ℕ = 1 in let more : (if is_some (lookup (is_at (cmp key)) es) then 0 else 1) ≡ one = ap (λ (o : Option X). if is_some o then 0 else 1) (absent es key i up gap) in
          omega (arith, one, length-insert es i (key, v) gap.in_range)
