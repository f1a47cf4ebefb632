-- Entries that are put into a map in the order of their keys come after the earlier ones.
use Rattle.std.proofs.Common.{◌≡◌, ℕ, T, List, [], ◌∷◌, ◌++◌, append_assoc, append-nil, length, arith, refl, sym, ap, subst, ◌∙◌}
use Rattle.std.specs.declared.cmp.Ordering.TheVariants.{Less, Greater}
use Rattle.std.specs.Ordering.{is_lt, ordering_reverse}
use Rattle.std.specs.Cmp.Lexicographic.{nat_list_cmp_total}
use Rattle.std.specs.FinMap.{entries, entries_sorted, entries-insert, insert, empty, same_entries_map, len-entries, len-empty}
use Rattle.std.specs.FinMap.Entries.{put, below_all, is_sorted}
use Rattle.std.proofs.Math.Facts.{and_yes}
use Rattle.rv_ledger.specs.Key.{Storage, key_cmp}
use Rattle.rv_ledger.proofs.SortedKeys.{less}

abbrev pub Entry : Type 0
Entry = List ℕ × List ℕ

-- a key below all is below one of them
below_one : (k : List ℕ) (xs ys : List Entry) (e : Entry) → T (below_all key_cmp k (xs ++ e ∷ ys)) → key_cmp k e.0 ≡ Less
below_one k [] ys e h = less (key_cmp k e.0) (and_yes (is_lt (key_cmp k e.0)) (below_all key_cmp k ys) h).0
below_one k (x ∷ xs) ys e h = below_one k xs ys e (and_yes (is_lt (key_cmp k x.0)) (below_all key_cmp k (xs ++ e ∷ ys)) h).1

-- an entry above all others is put after them
put_last : (xs ys : List Entry) (e : Entry) → T (is_sorted key_cmp (xs ++ e ∷ ys)) → put key_cmp e.0 e.1 xs ≡ xs ++ e ∷ []
put_last [] ys e h = refl
put_last (x ∷ xs) ys e h =
    let order = and_yes (below_all key_cmp x.0 (xs ++ e ∷ ys)) (is_sorted key_cmp (xs ++ e ∷ ys)) h in
    let above : key_cmp e.0 x.0 ≡ Greater = nat_list_cmp_total.antisymm e.0 x.0 ∙ ap ordering_reverse (below_one x.0 xs ys e order.0) in
    rw above (ap (λ (es : List Entry). x ∷ es) (put_last xs ys e order.1))

-- the map with these entries put into it
abbrev pub stored : Storage → List Entry → Storage
stored m [] = m
stored m (e ∷ es) = stored (insert m e.0 e.1) es

pub entries-stored : (m : Storage) (es : List Entry) → T (is_sorted key_cmp (entries m ++ es)) → entries (stored m es) ≡ entries m ++ es
entries-stored m [] h = sym (append-nil (entries m))
entries-stored m (e ∷ es) h =
    let one : entries (insert m e.0 e.1) ≡ entries m ++ e ∷ [] = entries-insert nat_list_cmp_total m e.0 e.1 ∙ put_last (entries m) es e h in
    let all : entries (insert m e.0 e.1) ++ es ≡ entries m ++ e ∷ es = ap (λ (xs : List Entry). xs ++ es) one ∙ append_assoc (entries m) (e ∷ []) es in
    entries-stored (insert m e.0 e.1) es (subst (λ (xs : List Entry). T (is_sorted key_cmp xs)) (sym all) h) ∙ all

no_length : (es : List Entry) → length es ≡ 0 → es ≡ []
no_length [] h = refl
no_length (e ∷ es) h = absurd (omega arith)

pub none : entries (empty {X = List ℕ} {R = key_cmp}) ≡ []
none = no_length (entries empty) (sym (len-entries (empty {X = List ℕ} {R = key_cmp})) ∙ len-empty key_cmp (List ℕ))

-- a map is what its entries make
pub stored_again : (m : Storage) → stored empty (entries m) ≡ m
stored_again m =
    let behind : entries (empty {X = List ℕ} {R = key_cmp}) ++ entries m ≡ entries m = ap (λ (xs : List Entry). xs ++ entries m) none in
    let made = entries-stored empty (entries m) (subst (λ (xs : List Entry). T (is_sorted key_cmp xs)) (sym behind) (entries_sorted m)) in
    same_entries_map (stored empty (entries m)) m (made ∙ behind)
