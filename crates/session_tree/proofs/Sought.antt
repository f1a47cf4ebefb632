-- At which position a key is sought in the rows of a map.
use Rattle.std.proofs.Common.{◌≡◌, ◌≢◌, ℕ, ne_eqb, eq-eqb, subst, true, false, List, [], ◌∷◌, map, Option, Some, None, T, refl, sym, ap, ◌∙◌, cond, Ordering, Less, Equal, Greater, is_eq, is_lt}
use Rattle.std.specs.List.{AllByRecursion}
use Rattle.std.specs.Ordering.{ordering_reverse}
use Rattle.std.specs.Cmp.{tied_itself}
use Rattle.std.specs.Cmp.Lexicographic.{nat_list_cmp_total}
use Rattle.std.specs.FinMap.{find, insert, remove, entries, entries_sorted, get-entries, is_sorted}
use Rattle.sqlite_value.specs.declared.value.Value.TheVariants.{Blob}
use Rattle.sqlite_value.specs.Order.{Row, column}
use Rattle.sqlite_value.specs.Keys.{plain, prefix_cmp}
use Rattle.sqlite_value.proofs.OrderLemmas.{value_cmp-Blob, then-Equal}
use Rattle.sqlite_value.proofs.KeyLemmas.{first_key-plain}
use Rattle.sqlite_trees.specs.Tree.{from_key, order_of, remove_entry, sought}
use Rattle.sqlite_trees.specs.View.{View, Advances, SetsTree, with_cursor}
use Rattle.sqlite_trees.specs.declared.store.Shape.TheVariants.{Index}
use Rattle.sqlite_trees.specs.declared.store.Direction.TheVariants.{Forward}
use Rattle.session_tree.specs.Entries.{ByteMap, EditsTree, changed_rows, entry_row, rows_of}
use Rattle.session_tree.proofs.Rows.{Entries, R, below_first, bytes_one, changed, gone_is, gone_then, none_gone, sorted_rest, without_key}

-- a row compares with a key alone as its own key does
key_order : (e : List ℕ × List ℕ) (k : List ℕ) → prefix_cmp plain (entry_row e) (Blob k ∷ []) ≡ R e.0 k
key_order e k = rw (first_key-plain, value_cmp-Blob e.0 k) (then-Equal (R e.0 k))

not_among : (k : List ℕ) (es : Entries) → AllByRecursion (λ f. R k f.0 ≡ Less) es → find R k es ≡ None
not_among k [] low = refl
not_among k (f ∷ fs) low = rw low.0 (not_among k fs low.1)

below_all_of : (k first : List ℕ) → R k first ≡ Less → (es : Entries) → AllByRecursion (λ f. R first f.0 ≡ Less) es → AllByRecursion (λ f. R k f.0 ≡ Less) es
below_all_of k first low [] all = tt
below_all_of k first low (f ∷ fs) all = (nat_list_cmp_total.trans k first f.0 low all.0, below_all_of k first low fs all.1)

abbrev left_at : List ℕ → Entries → List Row
left_at k es = from_key plain (Blob k ∷ []) (map entry_row es)

-- a row is that of the key, which has this value
record IsFound (k : List ℕ) (given : Row) (content : Option (List ℕ)) : Type 0 where
  value : List ℕ
  row : given ≡ entry_row (k, value)
  found : content ≡ Some value

-- if no row is left from the key on, the key is not there
at_end : (k : List ℕ) (es : Entries) → left_at k es ≡ [] → find R k es ≡ None
at_end k [] is = refl
at_end k (e ∷ es) is = rw (nat_list_cmp_total.antisymm k e.0) (go (R e.0 k) (rw (key_order e k) at is) (at_end k es))
  where
    go : (o : Ordering) → cond (is_lt o) (left_at k es) (entry_row e ∷ map entry_row es) ≡ [] → (left_at k es ≡ [] → find R k es ≡ None) → cond (is_eq (ordering_reverse o)) (Some e.1) (find R k es) ≡ None
    go Less is more = more is
    go Equal is more = cc
    go Greater is more = cc

-- if the first row that is left begins with the key, it is the key's
at_key : (k : List ℕ) (es : Entries) (row : Row) (left : List Row) → left_at k es ≡ row ∷ left → column row 0 ≡ Blob k → IsFound k row (find R k es)
at_key k [] row left is begins = cc
at_key k (e ∷ es) row left is begins = rw (nat_list_cmp_total.antisymm k e.0) (go (R e.0 k) refl (rw (key_order e k) at is) (at_key k es row left))
  where
    go : (o : Ordering) → R e.0 k ≡ o → cond (is_lt o) (left_at k es) (entry_row e ∷ map entry_row es) ≡ row ∷ left
        → (left_at k es ≡ row ∷ left → column row 0 ≡ Blob k → IsFound k row (find R k es))
        → IsFound k row (cond (is_eq (ordering_reverse o)) (Some e.1) (find R k es))
    go Less t is more = more is begins
    go Equal t is more =
        let this : row ≡ entry_row e = cc in
        let key : e.0 ≡ k = cc in
        record { value = e.1; row = this ∙ ap (λ q. entry_row (q, e.1)) key; found = refl }
    go Greater t is more =
        let this : row ≡ entry_row e = cc in
        let key : e.0 ≡ k = cc in
        let tie : R e.0 k ≡ Equal = rw key (tied_itself nat_list_cmp_total k) in
        cc

-- if the first row that is left begins with another key, the key is not there
past_key : (k : List ℕ) (es : Entries) (row : Row) (left : List Row) → T (is_sorted R es) → left_at k es ≡ row ∷ left → column row 0 ≢ Blob k → find R k es ≡ None
past_key k [] row left up is other = refl
past_key k (e ∷ es) row left up is other = rw (nat_list_cmp_total.antisymm k e.0) (go (R e.0 k) refl (rw (key_order e k) at is) (past_key k es row left (sorted_rest e es up)) (below_first e es up))
  where
    go : (o : Ordering) → R e.0 k ≡ o → cond (is_lt o) (left_at k es) (entry_row e ∷ map entry_row es) ≡ row ∷ left
        → (left_at k es ≡ row ∷ left → column row 0 ≢ Blob k → find R k es ≡ None) → AllByRecursion (λ f. R e.0 f.0 ≡ Less) es
        → cond (is_eq (ordering_reverse o)) (Some e.1) (find R k es) ≡ None
    go Less t is more low = more is other
    go Equal t is more low =
        let this : row ≡ entry_row e = cc in
        let key : e.0 ≡ k = bytes_one e.0 k t in
        absurd (other (ap (λ r. column r 0) this ∙ ap Blob key))
    go Greater t is more low = not_among k es (below_all_of k e.0 (nat_list_cmp_total.antisymm k e.0 ∙ ap ordering_reverse t) es low)

-- if a key is not there, removing it changes no row
pub none_removed : (m : ByteMap) (k : List ℕ) → find R k (entries m) ≡ None → rows_of m ≡ rows_of (remove m k)
none_removed m k none = ap rows_of (sym (none_gone m k (get-entries m k ∙ none)))

pub ended : (m : ByteMap) (k : List ℕ) → from_key plain (Blob k ∷ []) (rows_of m) ≡ [] → rows_of m ≡ rows_of (remove m k)
ended m k is = none_removed m k (at_end k (entries m) is)

pub passed : (m : ByteMap) (k : List ℕ) (row : Row) (left : List Row) → from_key plain (Blob k ∷ []) (rows_of m) ≡ row ∷ left → column row 0 ≢ Blob k → rows_of m ≡ rows_of (remove m k)
passed m k row left is other = none_removed m k (past_key k (entries m) row left (entries_sorted m) is other)

pub removed : (m : ByteMap) (k : List ℕ) (row : Row) (left : List Row) → from_key plain (Blob k ∷ []) (rows_of m) ≡ row ∷ left → column row 0 ≡ Blob k → remove_entry plain row (rows_of m) ≡ rows_of (remove m k)
removed m k row left is begins =
    let it = at_key k (entries m) row left is begins in
    ap (λ r. remove_entry plain r (rows_of m)) it.row ∙ without_key m k it.value (get-entries m k ∙ it.found)

-- a cursor was placed at a key, in the tree of a map
pub record IsPlaced (old new : View) (tree : ℕ) (m : ByteMap) (k : List ℕ) : Type 0 where
  rows : old.trees tree ≡ rows_of m
  cursor : new.cursors 0 ≡ Some (from_key plain (Blob k ∷ []) (rows_of m))
  left : List Row
  is : new ≡ with_cursor old 0 left

pub placed : (old new : View) (tree : ℕ) (m : ByteMap) (k : List ℕ) (key : Row) → key ≡ Blob k ∷ [] → old.shape tree ≡ Index plain → old.trees tree ≡ rows_of m
    → new ≡ with_cursor old 0 (sought (order_of (old.shape tree)) Forward key (old.trees tree)) → IsPlaced old new tree m k
placed old new tree m k key named shaped rows is = record {
  rows = rows;
  cursor = ap (λ (v : View). v.cursors 0) is ∙ ap Some (rw (shaped, named, rows) refl);
  left = sought (order_of (old.shape tree)) Forward key (old.trees tree);
  is = is;
}

-- the tree was only read
read_only : (old new : View) (tree : ℕ) (cursors : ℕ → Option (List Row)) (rows : List Row) → new ≡ record old { cursors = cursors } → old.trees tree ≡ rows → EditsTree old new tree (λ _. rows)
read_only old new tree cursors rows is same = record {
  this = ap (λ (v : View). v.trees tree) is ∙ same;
  others = λ t other. ap (λ (v : View). v.trees t) is;
  rest = subst (λ (v : View). v ≡ record old { trees = v.trees; cursors = v.cursors }) (sym is) refl;
}

some_once : {X : Type 0} (x y : X) → Some x ≡ Some y → x ≡ y
some_once x y is = cc

-- the cursor is at its end
pub nothing_removed : (old mid new : View) (tree : ℕ) (m : ByteMap) (k : List ℕ) (row : Row) → IsPlaced old mid tree m k → Advances mid new 0 row false → EditsTree old new tree (λ _. rows_of (remove m k))
nothing_removed old mid new tree m k row at step =
    read_only old new tree _ _ (step.1 ∙ at.is) (at.rows ∙ ended m k (some_once _ _ (sym at.cursor ∙ step.0)))

-- the cursor is past the key
pub other_kept : (old mid new : View) (tree : ℕ) (m : ByteMap) (k : List ℕ) (row : Row) → IsPlaced old mid tree m k → Advances mid new 0 row true → column row 0 ≢ Blob k → EditsTree old new tree (λ _. rows_of (remove m k))
other_kept old mid new tree m k row at step other =
    read_only old new tree _ _ (step.2 ∙ ap (λ v. with_cursor v 0 step.0) at.is) (at.rows ∙ passed m k row step.0 (some_once _ _ (sym at.cursor ∙ step.1)) other)

-- the cursor is at the key, whose row is removed
pub key_removed : (old mid now new : View) (tree : ℕ) (m : ByteMap) (k : List ℕ) (row : Row) → old.shape tree ≡ Index plain → IsPlaced old mid tree m k → Advances mid now 0 row true → column row 0 ≡ Blob k
    → SetsTree now new tree (remove_entry (order_of (now.shape tree)) row) → EditsTree old new tree (λ _. rows_of (remove m k))
key_removed old mid now new tree m k row shaped at step begins set =
    let read = read_only old now tree _ _ (step.2 ∙ ap (λ v. with_cursor v 0 step.0) at.is) at.rows in
    let plainly : order_of (now.shape tree) ≡ plain = ap (λ (v : View). order_of (v.shape tree)) (step.2 ∙ ap (λ v. with_cursor v 0 step.0) at.is) ∙ ap order_of shaped in record {
      this = ap (λ (v : View). v.trees tree) set.is ∙ rw (eq-eqb tree tree refl, plainly, read.this) (removed m k row step.0 (some_once _ _ (sym at.cursor ∙ step.1)) begins);
      others = λ t other. ap (λ (v : View). v.trees t) set.is ∙ rw (ne_eqb t tree other) (read.others t other);
      rest = subst (λ (v : View). v ≡ record now { trees = v.trees; cursors = v.cursors }) (sym set.is) refl ∙ ap (λ (v : View). record v { trees = new.trees; cursors = new.cursors }) read.rest;
    }

-- a key that was removed gets a value
pub key_set : (old mid new : View) (tree : ℕ) (m : ByteMap) (k v : List ℕ) → EditsTree old mid tree (λ _. rows_of (remove m k)) → EditsTree mid new tree (changed_rows k None (Some v)) → EditsTree old new tree (λ _. rows_of (insert m k v))
key_set old mid new tree m k v gone set = record {
  this = set.this ∙ ap (changed_rows k None (Some v)) gone.this ∙ changed (remove m k) k None (Some v) (gone_is m k) ∙ ap rows_of (gone_then m k v);
  others = λ t other. set.others t other ∙ gone.others t other;
  rest = set.rest ∙ ap (λ (w : View). record w { trees = new.trees; cursors = new.cursors }) gone.rest;
}
