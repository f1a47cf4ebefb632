-- The limits of a storage's entries, when a key gets another content.
use Rattle.std.proofs.Common.{◌≡◌, ◌≤◌, ℕ, Bor, List, [], ◌∷◌, Option, Some, None, Bool, true, false, cond, not, length, IfSome, sym, subst, Ordering, Less, Equal, Greater, arith}
use Rattle.std.specs.List.{AllByRecursion}
use Rattle.std.specs.Option.{option_copied}
use Rattle.std.specs.Ordering.{eq_by_cmp}
use Rattle.std.specs.Cmp.Lexicographic.{nat_list_cmp_total}
use Rattle.std.specs.FinMap.{entries, entries-insert, insert, put, remove}
use Rattle.std.specs.FinMap.Entries.{by_order, where_key}
use Rattle.rv_ledger.specs.Change.{Content}
use Rattle.rv_ledger.specs.Key.{Storage, key_cmp}
use Rattle.session_tree.specs.Entries.{ByteMap, IsTooLong}
use Rattle.session_tree.proofs.Rows.{entries-remove}
use Rattle.rv_ledger.specs.Applied.{set_content}
use Rattle.session_file.specs.Kept.{AreEntries, AreNamed}

abbrev Pairs : Type 0
Pairs = List (List ℕ × List ℕ)

module _ (P : List ℕ × List ℕ → Type 0) where
  -- what holds of each entry and of a new one, whatever key of the same length it takes the place at
  all-put : (k v : List ℕ) (es : Pairs) → ((q w : List ℕ) → P (q, w) → P (q, v)) → P (k, v) → AllByRecursion P es → AllByRecursion P (put key_cmp k v es)
  all-put k v [] any this all = (this, tt)
  all-put k v (e ∷ es) any this all = go (key_cmp k e.0) (all-put k v es any this all.1)
    where
      go : (o : Ordering) → AllByRecursion P (put key_cmp k v es) → AllByRecursion P (by_order o ((k, v) ∷ e ∷ es) ((e.0, v) ∷ es) (e ∷ put key_cmp k v es))
      go Less more = (this, all)
      go Equal more = (any e.0 e.1 all.0, all.1)
      go Greater more = (all.0, more)

  all-where : (keep : List ℕ → Bool) (es : Pairs) → AllByRecursion P es → AllByRecursion P (where_key key_cmp keep es)
  all-where keep [] all = tt
  all-where keep (e ∷ es) all = go (keep e.0) (all-where keep es all.1)
    where
      go : (b : Bool) → AllByRecursion P (where_key key_cmp keep es) → AllByRecursion P (cond b (e ∷ where_key key_cmp keep es) (where_key key_cmp keep es))
      go true more = (all.0, more)
      go false more = more

  all-insert : (m : ByteMap) (k v : List ℕ) → ((q w : List ℕ) → P (q, w) → P (q, v)) → P (k, v) → AllByRecursion P (entries m) → AllByRecursion P (entries (insert m k v))
  all-insert m k v any this all = subst (AllByRecursion P) (sym (entries-insert nat_list_cmp_total m k v)) (all-put k v (entries m) any this all)

  all-remove : (m : ByteMap) (k : List ℕ) → AllByRecursion P (entries m) → AllByRecursion P (entries (remove m k))
  all-remove m k all = subst (AllByRecursion P) (sym (entries-remove m k)) (all-where (λ x. not (eq_by_cmp key_cmp k x)) (entries m) all)

-- a storage in which a key has a value of at most 256 bytes
pub entries_insert : (s : Storage) (k v : List ℕ) → length k ≡ 32 → length v ≤ 256 → AreEntries s → AreEntries (insert s k v)
entries_insert s k v key value all = all-insert _ s k v (λ q w h. (h.0, value)) (key, value) all

pub entries_remove : (s : Storage) (k : List ℕ) → AreEntries s → AreEntries (remove s k)
entries_remove s k all = all-remove _ s k all

pub entries_set : (s : Storage) (k : List ℕ) (c : Content) → length k ≡ 32 → IfSome c (λ v. length v ≤ 256) → AreEntries s → AreEntries (set_content s k c)
entries_set s k (Some v) key value all = entries_insert s k v key value all
entries_set s k None key value all = entries_remove s k all

-- programs, one more under a name of 32 bytes
pub names_insert : (m : ByteMap) (k v : List ℕ) → length k ≡ 32 → AreNamed m → AreNamed (insert m k v)
names_insert m k v name all = all-insert _ m k v (λ q w h. h) name all

pub names_remove : (m : ByteMap) (k : List ℕ) → AreNamed m → AreNamed (remove m k)
names_remove m k all = all-remove _ m k all

-- an entry of a storage can be stored
pub never_long : (k : List ℕ) (new : Option (List ℕ)) → length k ≡ 32 → IfSome new (λ v. length v ≤ 256) → IsTooLong k new → ⊥
never_long k None key value long = long
never_long k (Some v) key value long = omega (arith, key, value, long)

pub copied_short : (o : Option (Bor (List ℕ))) → IfSome o (λ bytes. length bytes.now ≤ 256) → IfSome (option_copied o) (λ v. length v ≤ 256)
copied_short None short = tt
copied_short (Some b) short = short
