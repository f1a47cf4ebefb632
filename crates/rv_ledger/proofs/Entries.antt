-- A map of entries as a finite map: its values, one entry set, one gone, and its entries in order.
use Rattle.std.proofs.Common.{◌≡◌, ◌+◌, ◌<◌, ◌≤◌, arith, length, nat_lt, is_some, if◌then◌else◌, ◌||◌, ℕ, List, [], ◌∷◌, Option, Some, None, Result, Ok, Err, OnErr, Bool, true, false, cond, refl, sym, ap, subst, ◌∙◌, T}
use Rattle.std.specs.declared.cmp.Ordering.TheVariants.{Less}
use Rattle.std.specs.List.{AllByRecursion, fold}
use Rattle.std.specs.List.Sorted.{IsStrictlySortedBy}
use Rattle.std.specs.Borrow.{Bor}
use Rattle.std.specs.Option.{option_copied}
use Rattle.std.specs.Ordering.{eq_by_cmp, is_lt}
use Rattle.std.specs.Cmp.{eq_by_cmp_equiv}
use Rattle.std.specs.Cmp.Lexicographic.{nat_list_cmp_total}
use Rattle.std.specs.FinMap.{find, empty, get, get-empty, insert, remove, from_entries, from_sorted, entries, len, len-entries, entries-from_sorted, get-from_sorted, is_sorted, get-from_entries, get-insert, get-remove, same_map, slice_cmp-IsAntisymmetric, nat_cmp-IsAntisymmetric, IsAntisymmetric}
use Rattle.std.specs.FinMap.Entries.{below_all}
use Rattle.std.specs.Map.{lookup, keys_of, update, update_all}
use Rattle.std.proofs.Math.Facts.{yes_and}
use Rattle.std.proofs.lemmas.Bool.Decides.{nat_tests}
use Rattle.std.specs.BTreeMap.{is_at}
use Rattle.rv_ledger.specs.Change.{ContentChange}
use Rattle.rv_ledger.specs.Entries.{AreAscending, IsWriteList}
use Rattle.rv_ledger.specs.Key.{key_cmp, has_room, Storage, WriteMap}
use Rattle.rv_ledger.specs.Inserted.{inserted}

-- keys that compare as equal are one key
pub key_cmp-IsAntisymmetric : IsAntisymmetric key_cmp
key_cmp-IsAntisymmetric = slice_cmp-IsAntisymmetric nat_cmp-IsAntisymmetric

-- a scan of the entries finds what a look-up finds
pub find_lookup : {X : Type 0} (es : List (List ℕ × X)) (q : List ℕ) → find key_cmp q es ≡ lookup (is_at (key_cmp q)) es
find_lookup [] q = refl
find_lookup (e ∷ es) q = ap (cond (is_at (key_cmp q) e.0) (Some e.1)) (find_lookup es q)

-- what the map that the entries make has at a key
pub get_value : {X : Type 0} (es : List (List ℕ × X)) (q : List ℕ) → get (from_entries {R = key_cmp} es) q ≡ lookup (is_at (key_cmp q)) es
get_value es q = get-from_entries nat_list_cmp_total es q ∙ find_lookup es q

-- entries that differ at one key by a value make maps that differ by that value
pub one_set : {X : Type 0} (es fs : List (List ℕ × X)) (k : List ℕ) (v : X) → ((q : List ℕ) → lookup (is_at (key_cmp q)) fs ≡ cond (is_at (key_cmp k) q) (Some v) (lookup (is_at (key_cmp q)) es)) → from_entries {R = key_cmp} fs ≡ insert (from_entries es) k v
one_set es fs k v h = same_map nat_list_cmp_total key_cmp-IsAntisymmetric _ _ (λ q.
    get_value fs q ∙ h q ∙ ap (λ b. cond b (Some v) (lookup (is_at (key_cmp q)) es)) ((eq_by_cmp_equiv nat_list_cmp_total).symm k q)
    ∙ sym (get-insert nat_list_cmp_total (from_entries es) k v q ∙ ap (cond (is_at (key_cmp q) k) (Some v)) (get_value es q)))

-- entries that differ at one key by its absence make maps that differ by that
pub one_gone : {X : Type 0} (es fs : List (List ℕ × X)) (k : List ℕ) → ((q : List ℕ) → lookup (is_at (key_cmp q)) fs ≡ cond (is_at (key_cmp k) q) None (lookup (is_at (key_cmp q)) es)) → from_entries {R = key_cmp} fs ≡ remove (from_entries es) k
one_gone es fs k h = same_map nat_list_cmp_total key_cmp-IsAntisymmetric _ _ (λ q.
    get_value fs q ∙ h q ∙ ap (λ b. cond b None (lookup (is_at (key_cmp q)) es)) ((eq_by_cmp_equiv nat_list_cmp_total).symm k q)
    ∙ sym (get-remove nat_list_cmp_total (from_entries es) k q ∙ ap (cond (is_at (key_cmp q) k) None) (get_value es q)))

-- what inserting the entries in turn leaves at a key
get_inserted : (es : List (List ℕ × List ℕ)) (s : Storage) (f : List ℕ → Option (List ℕ)) → ((q : List ℕ) → get s q ≡ f q)
    → (q : List ℕ) → get (fold (λ s e. insert s e.0 e.1) s es) q ≡ update_all (eq_by_cmp key_cmp) f es q
get_inserted [] s f h q = h q
get_inserted (e ∷ es) s f h q = get_inserted es (insert s e.0 e.1) (update (eq_by_cmp key_cmp) f e.0 (Some e.1)) (λ p.
    get-insert nat_list_cmp_total s e.0 e.1 p ∙ ap (λ b. cond b (Some e.1) (get s p)) ((eq_by_cmp_equiv nat_list_cmp_total).symm p e.0) ∙ ap (cond (eq_by_cmp key_cmp e.0 p) (Some e.1)) (h p)) q

-- a map that is made of entries in one pass is the storage that inserting them in turn gives
pub all_inserted : (es fs : List (List ℕ × List ℕ)) → ((q : List ℕ) → lookup (is_at (key_cmp q)) fs ≡ update_all (eq_by_cmp key_cmp) (λ _. None) es q) → from_entries fs ≡ inserted es
all_inserted es fs h = same_map nat_list_cmp_total key_cmp-IsAntisymmetric (from_entries fs) (inserted es) (λ q.
    get_value fs q ∙ h q ∙ sym (get_inserted es empty (λ _. None) (get-empty key_cmp) q))

below_all_of : {X : Type 0} (k : List ℕ) (es : List (List ℕ × X)) → AllByRecursion (λ y. key_cmp k y ≡ Less) (keys_of es) → T (below_all key_cmp k es)
below_all_of k [] h = tt
below_all_of k (e ∷ es) h = yes_and _ _ (subst (λ r. T (is_lt r)) (sym h.0) tt) (below_all_of k es h.1)

sorted_of : {X : Type 0} (es : List (List ℕ × X)) → IsStrictlySortedBy key_cmp (keys_of es) → T (is_sorted key_cmp es)
unfolding IsStrictlySortedBy
sorted_of [] h = tt
sorted_of (e ∷ es) h = yes_and _ _ (below_all_of e.0 es h.0) (sorted_of es h.1)

-- the entries of the map that ascending entries make are those entries
pub entries_in_order : {X : Type 0} (es : List (List ℕ × X)) → IsStrictlySortedBy key_cmp (keys_of es) → entries (from_entries {R = key_cmp} es) ≡ es
entries_in_order es h =
    let test : T (is_sorted key_cmp es) = sorted_of es h in
    ap entries (same_map nat_list_cmp_total key_cmp-IsAntisymmetric (from_entries es) (from_sorted es) (λ q. get-from_entries nat_list_cmp_total es q ∙ sym (get-from_sorted key_cmp es q test)))
    ∙ entries-from_sorted key_cmp es test

-- how many entries the map that ascending entries make has
pub len_in_order : {X : Type 0} (es : List (List ℕ × X)) → IsStrictlySortedBy key_cmp (keys_of es) → len (from_entries {R = key_cmp} es) ≡ length es
len_in_order es h = len-entries (from_entries es) ∙ ap length (entries_in_order es h)

-- room for one more write, read off the entries
pub has_room_entries : (es : List (List ℕ × ContentChange)) (q : List ℕ) → IsStrictlySortedBy key_cmp (keys_of es) → has_room (from_entries es) q ≡ (is_some (lookup (is_at (key_cmp q)) es) || nat_lt (length es) 256)
has_room_entries es q h = ap (λ o. is_some o || nat_lt (len (from_entries {R = key_cmp} es)) 256) (get_value es q) ∙ ap (λ n. is_some (lookup (is_at (key_cmp q)) es) || nat_lt n 256) (len_in_order es h)

grows_within : (b : Bool) (n : ℕ) → (b || nat_lt n 256) ≡ true → n ≤ 256 → n + (if b then 0 else 1) ≤ 256
grows_within true n h k = omega arith
grows_within false n h k = grind (arith, nat_tests)

-- a write that has room keeps the limit
pub write_fits : (es fs : List (List ℕ × ContentChange)) (key : List ℕ) (m : WriteMap) → IsWriteList es → from_entries es ≡ m → has_room m key ≡ true → AreAscending fs
    → length fs ≡ length es + (if (is_some (lookup (is_at (key_cmp key)) es)) then 0 else 1) → IsWriteList fs
write_fits es fs key m list is room up grown =
    let fits : length es + (if (is_some (lookup (is_at (key_cmp key)) es)) then 0 else 1) ≤ 256 =
    grows_within _ _ (sym (ap (λ (w : WriteMap). has_room w key) (sym is) ∙ has_room_entries es key list.ascending) ∙ room) list.few in
    record { ascending = up; few = subst (λ (k : ℕ). k ≤ 256) (sym grown) fits }

-- no entries
pub no_writes : IsWriteList []
unfolding IsStrictlySortedBy
no_writes = record { ascending = tt; few = omega arith }

or_true : (a b : Bool) → b ≡ true → b ≡ (a || b)
or_true true b h = h
or_true false b h = refl

or_false : (a b : Bool) → b ≡ false → a ≡ (a || b)
or_false true b h = refl
or_false false b h = sym h

-- there is a lent value exactly if there is a value
pub copied_is_some : {X : Type 0} (o : Option (Bor X)) → is_some (option_copied o) ≡ is_some o
copied_is_some None = refl
copied_is_some (Some x) = refl

-- there is room if few keys are written
pub room_by_count : (es : List (List ℕ × ContentChange)) (key : List ℕ) (n : ℕ) (m : WriteMap) → AreAscending es → from_entries es ≡ m → n ≡ length es → n < 256 → nat_lt n 256 ≡ has_room m key
room_by_count es key n m up is count few =
    let test : nat_lt (length es) 256 ≡ true = grind (arith, nat_tests) in
    ap (λ k. nat_lt k 256) count ∙ or_true (is_some (lookup (is_at (key_cmp key)) es)) (nat_lt (length es) 256) test ∙ sym (has_room_entries es key up) ∙ ap (λ (w : WriteMap). has_room w key) is

-- otherwise there is room exactly if the key is written already
pub room_by_key : (es : List (List ℕ × ContentChange)) (key : List ℕ) (n : ℕ) (m : WriteMap) → AreAscending es → from_entries es ≡ m → n ≡ length es → 256 ≤ n → is_some (get m key) ≡ has_room m key
room_by_key es key n m up is count many =
    let test : nat_lt (length es) 256 ≡ false = grind (arith, nat_tests) in
    or_false (is_some (get m key)) (nat_lt (len m) 256) (ap (λ (w : WriteMap). nat_lt (len w) 256) (sym is) ∙ ap (λ k. nat_lt k 256) (len_in_order es up) ∙ test)
