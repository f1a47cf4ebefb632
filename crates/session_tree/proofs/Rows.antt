-- The rows of a map, when a key gets another content.
use Rattle.std.proofs.Common.{◌≡◌, ℕ, List, [], ◌∷◌, map, Option, Some, None, Bool, true, false, cond, not, T, refl, sym, ap, ◌∙◌, Ordering, Less, Equal, Greater, is_eq, is_lt}
use Rattle.std.specs.List.{AllByRecursion}
use Rattle.std.specs.Ordering.{nat_cmp, ordering_then, ordering_reverse, match_ordering, eq_by_cmp}
use Rattle.std.specs.Cmp.{tied_itself, alike_right, eq_by_cmp_equiv}
use Rattle.std.specs.Cmp.Lexicographic.{slice_cmp, nat_list_cmp_total}
use Rattle.std.specs.FinMap.{find, put, get, insert, remove, entries, entries_sorted, entries-insert, get-entries, get-insert, get-remove, same_map, get_tied, slice_cmp-IsAntisymmetric, nat_cmp-IsAntisymmetric, IsAntisymmetric, is_sorted}
use Rattle.std.specs.FinMap.Entries.{by_order, where_key, below_all, same_entries, is_sorted-where_key, find-where_key}
use Rattle.std.proofs.Math.Facts.{and_yes}
use Rattle.sqlite_value.specs.Keys.{plain, entry_cmp}
use Rattle.sqlite_value.proofs.OrderLemmas.{value_cmp-Blob, then-Equal}
use Rattle.sqlite_value.proofs.KeyLemmas.{first_key-plain}
use Rattle.sqlite_trees.specs.Tree.{insert_entry, remove_entry}
use Rattle.session_tree.specs.Entries.{ByteMap, entry_row, rows_of, changed_rows}

-- a map in which a key has this value, or no value
abbrev pub with_content : ByteMap → List ℕ → Option (List ℕ) → ByteMap
with_content m key (Some value) = insert m key value
with_content m key None = remove m key

abbrev pub Entries : Type 0
Entries = List (List ℕ × List ℕ)

abbrev pub R : List ℕ → List ℕ → Ordering
R = slice_cmp nat_cmp

pub bytes_one : IsAntisymmetric R
bytes_one = slice_cmp-IsAntisymmetric nat_cmp-IsAntisymmetric

less_not_equal : Less ≡ Equal → ⊥
less_not_equal h = cc

is_less : (o : Ordering) → T (is_lt o) → o ≡ Less
is_less Less h = refl
is_less Equal h = absurd h
is_less Greater h = absurd h

all_below : {X : Type 0} (k : List ℕ) (es : List (List ℕ × X)) → T (below_all R k es) → AllByRecursion (λ f. R k f.0 ≡ Less) es
all_below k [] h = tt
all_below k (e ∷ es) h = let both = and_yes (is_lt (R k e.0)) (below_all R k es) h in (is_less _ both.0, all_below k es both.1)

pub below_first : {X : Type 0} (e : List ℕ × X) (es : List (List ℕ × X)) → T (is_sorted R (e ∷ es)) → AllByRecursion (λ f. R e.0 f.0 ≡ Less) es
below_first e es up = all_below e.0 es (and_yes (below_all R e.0 es) (is_sorted R es) up).0

pub sorted_rest : {X : Type 0} (e : List ℕ × X) (es : List (List ℕ × X)) → T (is_sorted R (e ∷ es)) → T (is_sorted R es)
sorted_rest e es up = (and_yes (below_all R e.0 es) (is_sorted R es) up).1

-- two entries compare by their keys, and then by their values
pub row_order : (e f : List ℕ × List ℕ) → entry_cmp plain (entry_row e) (entry_row f) ≡ ordering_then (R e.0 f.0) (R e.1 f.1)
row_order e f = rw (first_key-plain, value_cmp-Blob e.0 f.0, value_cmp-Blob e.1 f.1) (ap (ordering_then (R e.0 f.0)) (then-Equal (R e.1 f.1)))

-- a new key is inserted in its place
pub inserted_row : (k v : List ℕ) (es : Entries) → find R k es ≡ None → insert_entry plain (entry_row (k, v)) (map entry_row es) ≡ map entry_row (put R k v es)
inserted_row k v [] none = refl
inserted_row k v (e ∷ es) none = rw (row_order e (k, v), nat_list_cmp_total.antisymm e.0 k) (go (R k e.0) none (inserted_row k v es))
  where
    go : (o : Ordering) → cond (is_eq o) (Some e.1) (find R k es) ≡ None → (find R k es ≡ None → insert_entry plain (entry_row (k, v)) (map entry_row es) ≡ map entry_row (put R k v es))
        → match_ordering (ordering_then (ordering_reverse o) (R e.1 v)) (entry_row e ∷ insert_entry plain (entry_row (k, v)) (map entry_row es)) (entry_row e ∷ map entry_row es) (entry_row (k, v) ∷ entry_row e ∷ map entry_row es)
        ≡ map entry_row (by_order o ((k, v) ∷ e ∷ es) ((e.0, v) ∷ es) (e ∷ put R k v es))
    go Less is more = refl
    go Equal is more = cc
    go Greater is more = ap (λ l. entry_row e ∷ l) (more is)

after_tie : (k o first : List ℕ) (fs : Entries) → R k first ≡ Equal → AllByRecursion (λ f. R first f.0 ≡ Less) fs → AllByRecursion (λ f. R k f.0 ≡ Equal → f.1 ≡ o) fs
after_tie k o first [] tie low = tt
after_tie k o first (f ∷ fs) tie low = (λ same. absurd (less_not_equal (sym low.0 ∙ sym (nat_list_cmp_total.congr k first f.0 tie) ∙ same)), after_tie k o first fs tie low.1)

-- if a key is found, its entry alone has that key
pub only_entry : (k o : List ℕ) (es : Entries) → T (is_sorted R es) → find R k es ≡ Some o → AllByRecursion (λ e. R k e.0 ≡ Equal → e.1 ≡ o) es
only_entry k o [] up is = tt
only_entry k o (e ∷ es) up is = go (R k e.0) refl is (only_entry k o es (sorted_rest e es up)) (below_first e es up)
  where
    go : (r : Ordering) → R k e.0 ≡ r → cond (is_eq r) (Some e.1) (find R k es) ≡ Some o → (find R k es ≡ Some o → AllByRecursion (λ f. R k f.0 ≡ Equal → f.1 ≡ o) es) → AllByRecursion (λ f. R e.0 f.0 ≡ Less) es
        → (R k e.0 ≡ Equal → e.1 ≡ o) × AllByRecursion (λ f. R k f.0 ≡ Equal → f.1 ≡ o) es
    go Equal t found more low = (λ _. cc, after_tie k o e.0 es t low)
    go Less t found more low = (λ tie. cc, more found)
    go Greater t found more low = (λ tie. cc, more found)

-- the entry of a key is removed
pub removed_rows : (k o : List ℕ) (es : Entries) → AllByRecursion (λ e. R k e.0 ≡ Equal → e.1 ≡ o) es → remove_entry plain (entry_row (k, o)) (map entry_row es) ≡ map entry_row (where_key R (λ x. not (eq_by_cmp R k x)) es)
removed_rows k o [] only = refl
removed_rows k o (e ∷ es) only = rw (row_order e (k, o), nat_list_cmp_total.antisymm e.0 k) (go (R k e.0) only.0 (removed_rows k o es only.1))
  where
    go : (r : Ordering) → (r ≡ Equal → e.1 ≡ o) → remove_entry plain (entry_row (k, o)) (map entry_row es) ≡ map entry_row (where_key R (λ x. not (eq_by_cmp R k x)) es)
        → cond (not (is_eq (ordering_then (ordering_reverse r) (R e.1 o)))) (entry_row e ∷ remove_entry plain (entry_row (k, o)) (map entry_row es)) (remove_entry plain (entry_row (k, o)) (map entry_row es))
        ≡ map entry_row (cond (not (is_eq r)) (e ∷ where_key R (λ x. not (eq_by_cmp R k x)) es) (where_key R (λ x. not (eq_by_cmp R k x)) es))
    go Less same more = ap (λ l. entry_row e ∷ l) more
    go Greater same more = ap (λ l. entry_row e ∷ l) more
    go Equal same more = rw (same refl, tied_itself nat_list_cmp_total o) more

turned : {A : Type 0} (b : Bool) (x y : A) → cond (not b) x y ≡ cond b y x
turned true x y = refl
turned false x y = refl

same_bytes : (m n : ByteMap) → ((q : List ℕ) → get m q ≡ get n q) → m ≡ n
same_bytes m n h = same_map nat_list_cmp_total bytes_one m n h

pub entries-remove : (m : ByteMap) (k : List ℕ) → entries (remove m k) ≡ where_key R (λ x. not (eq_by_cmp R k x)) (entries m)
entries-remove m k =
    let kept = λ (x : List ℕ). not (eq_by_cmp R k x) in
    same_entries R nat_list_cmp_total bytes_one (entries (remove m k)) (where_key R kept (entries m)) (entries_sorted (remove m k)) (is_sorted-where_key R kept (entries m) (entries_sorted m)) (λ q.
    sym (get-entries (remove m k) q) ∙ get-remove nat_list_cmp_total m k q ∙ ap (λ b. cond b None (get m q)) ((eq_by_cmp_equiv nat_list_cmp_total).symm q k)
    ∙ sym (turned (eq_by_cmp R k q) (get m q) None) ∙ ap (λ o. cond (kept q) o None) (get-entries m q)
    ∙ sym (find-where_key R kept q (λ x t. ap (λ r. not (is_eq r)) (sym (alike_right nat_list_cmp_total q x k t))) (entries m)))

pub without_key : (m : ByteMap) (k o : List ℕ) → get m k ≡ Some o → remove_entry plain (entry_row (k, o)) (rows_of m) ≡ rows_of (remove m k)
without_key m k o is = removed_rows k o (entries m) (only_entry k o (entries m) (entries_sorted m) (sym (get-entries m k) ∙ is)) ∙ ap (map entry_row) (sym (entries-remove m k))

with_key : (m : ByteMap) (k v : List ℕ) → get m k ≡ None → insert_entry plain (entry_row (k, v)) (rows_of m) ≡ rows_of (insert m k v)
with_key m k v is = inserted_row k v (entries m) (sym (get-entries m k) ∙ is) ∙ ap (map entry_row) (sym (entries-insert nat_list_cmp_total m k v))

itself : (k : List ℕ) → eq_by_cmp R k k ≡ true
itself k = ap is_eq (tied_itself nat_list_cmp_total k)

equal : (r : Ordering) → is_eq r ≡ true → r ≡ Equal
equal Less h = cc
equal Equal h = refl
equal Greater h = cc

-- nothing is gone if nothing was there
pub none_gone : (m : ByteMap) (k : List ℕ) → get m k ≡ None → remove m k ≡ m
none_gone m k is = same_bytes _ _ (λ q. get-remove nat_list_cmp_total m k q ∙ go q (eq_by_cmp R q k) refl)
  where
    go : (q : List ℕ) (b : Bool) → eq_by_cmp R q k ≡ b → cond b None (get m q) ≡ get m q
    go q false t = refl
    go q true t = sym is ∙ get_tied nat_list_cmp_total m q k (equal _ t)

pub gone_then : (m : ByteMap) (k v : List ℕ) → insert (remove m k) k v ≡ insert m k v
gone_then m k v = same_bytes _ _ (λ q. get-insert nat_list_cmp_total (remove m k) k v q ∙ ap (cond (eq_by_cmp R q k) (Some v)) (get-remove nat_list_cmp_total m k q)
    ∙ go (eq_by_cmp R q k) (get m q) ∙ sym (get-insert nat_list_cmp_total m k v q))
  where
    go : (b : Bool) (o : Option (List ℕ)) → cond b (Some v) (cond b None o) ≡ cond b (Some v) o
    go true o = refl
    go false o = refl

pub gone_is : (m : ByteMap) (k : List ℕ) → get (remove m k) k ≡ None
gone_is m k = get-remove nat_list_cmp_total m k k ∙ ap (λ b. cond b None (get m k)) (itself k)

-- the rows of a map, when a key gets another content
pub changed : (m : ByteMap) (k : List ℕ) (old new : Option (List ℕ)) → get m k ≡ old → changed_rows k old new (rows_of m) ≡ rows_of (with_content m k new)
changed m k None None is = ap rows_of (sym (none_gone m k is))
changed m k None (Some v) is = with_key m k v is
changed m k (Some o) None is = without_key m k o is
changed m k (Some o) (Some v) is = ap (insert_entry plain (entry_row (k, v))) (without_key m k o is) ∙ with_key (remove m k) k v (gone_is m k) ∙ ap rows_of (gone_then m k v)
