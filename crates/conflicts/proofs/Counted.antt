-- The writers of each key, and how many waits there are at it.
use Rattle.std.proofs.Common.{◌≡◌, ◌==◌, ◌+◌, ◌*◌, ◌^◌, ◌<◌, ◌≤◌, ◌++◌, ℕ, zero, suc, Bool, true, false, cond, List, [], ◌∷◌, map, reverse, take, length, Option, Some, None, is_some, T, refl, sym, ap, subst, ◌∙◌, arith, append-nil, append_assoc, length-append}
use Rattle.std.specs.FinMap as finite
use Rattle.std.specs.FinMap.Entries.{below_all, by_order, put}
use Rattle.std.specs.List.{enumerate_from, filter, flat_map, fold, range_with_len, slice_get}
use Rattle.std.specs.Option.{UnwrapsOrElse, unwrap_or}
use Rattle.std.specs.Ordering.{eq_by_cmp}
use Rattle.std.specs.Str.{bytes_eq}
use Rattle.std.specs.declared.cmp.Ordering.{Ordering}
use Rattle.std.specs.declared.cmp.Ordering.TheVariants.{Less, Equal, Greater}
use Rattle.std.specs.Cmp.{eq_by_cmp_equiv}
use Rattle.std.specs.Cmp.Lexicographic.{nat_list_cmp_total}
use Rattle.std.proofs.Math.Facts.{and_yes}
use Rattle.std.proofs.lemmas.Grind.{flat_map-append}
use Rattle.std.proofs.lemmas.List.{length-reverse}
use Rattle.std.proofs.lemmas.List.Elements.{filter-append}
use Rattle.std.proofs.lemmas.List.FromFn.{map-range_with_len_more}
use Rattle.std.proofs.lemmas.List.Sums.{fold-append}
use Rattle.std.proofs.lemmas.Slice.Eq.{bytes_eq-Decides}
use Rattle.rv_ledger.proofs.Entries.{key_cmp-IsAntisymmetric}
use Rattle.rv_ledger.proofs.SortedKeys.{not_below}
use Rattle.rv_ledger.specs.Call.{Invocation}
use Rattle.rv_ledger.specs.Change.{ContentChange}
use Rattle.rv_ledger.specs.Key.{Storage, key_cmp}
use Rattle.rv_ledger.specs.declared.change.Change.TheVariants as change
use Rattle.rv_ledger.specs.declared.receipt.Receipt.{Receipt}
use Rattle.rv_step.specs.Chain.{ends}
use Rattle.rv_step.specs.Fold.{receipts_of, store_after_call, store_before}
use Rattle.conflicts.specs.Calls.{CallLists, Counts, calls_at, count_at, hot_key, hot_keys, with_call_changes, with_more, with_waits}
use Rattle.conflicts.specs.Reads.{Keys, keys_read}
use Rattle.conflicts.specs.Sums.{HotKeyView, all_waits, calls_changing, changes_key, hot_key_of, keys_of_calls}
use Rattle.conflicts.specs.Table.{waits_in}
use Rattle.conflicts.specs.Waits.{CallView, Wait, call_view_of, calls_of, change_in, keys_read_by, waits_at, waits_for, waits_of, waits_over, writers_named}
use Rattle.conflicts.proofs.Noted.{Names, changed, changes_at, named_more, named_none, noted, receipt_at, tied}

-- the calls that were found at a key, or none yet
pub found_or_none : (o : Option (List ℕ)) (P : List ℕ → Type 0) (calls : List ℕ) → UnwrapsOrElse o P calls → ((m : List ℕ) → P m → m ≡ []) → calls ≡ unwrap_or o []
found_or_none None P calls h none = none calls h
found_or_none (Some m) P calls h none = h

from_zero : (n : ℕ) → 0 + n ≡ n
from_zero n = omega arith

-- some more at a key, and as before at the others
at_more : (q : List ℕ) (m : Counts) (key : List ℕ) (n : ℕ) (b : Bool) → eq_by_cmp key_cmp q key ≡ b → count_at (with_more m key n) q ≡ cond b (count_at m q + n) (count_at m q)
at_more q m key n true same =
    ap (λ o. unwrap_or o 0) (finite.get-insert nat_list_cmp_total m key (count_at m key + n) q ∙ ap (λ b. cond b (Some (count_at m key + n)) (finite.get m q)) same)
    ∙ ap (λ k. count_at m k + n) (sym (key_cmp-IsAntisymmetric q key (tied (key_cmp q key) same)))
at_more q m key n false other =
    ap (λ o. unwrap_or o 0) (finite.get-insert nat_list_cmp_total m key (count_at m key + n) q ∙ ap (λ b. cond b (Some (count_at m key + n)) (finite.get m q)) other)

-- keys compare as equal exactly if their bytes are equal
same_test : (key q : List ℕ) → eq_by_cmp key_cmp q key ≡ bytes_eq key q
same_test key q = by_order_test (eq_by_cmp key_cmp q key) refl
  where
    by_bytes : (b : Bool) → eq_by_cmp key_cmp q key ≡ false → bytes_eq key q ≡ b → false ≡ b
    by_bytes true apart same =
        let is : key ≡ q = (bytes_eq-Decides key q).0 same in
        sym apart ∙ ap (eq_by_cmp key_cmp q) is ∙ (eq_by_cmp_equiv nat_list_cmp_total).refl q
    by_bytes false apart other = refl

    by_order_test : (b : Bool) → eq_by_cmp key_cmp q key ≡ b → eq_by_cmp key_cmp q key ≡ bytes_eq key q
    by_order_test true same = same ∙ sym ((bytes_eq-Decides key q).1 (sym (key_cmp-IsAntisymmetric q key (tied (key_cmp q key) same))))
    by_order_test false apart = apart ∙ by_bytes (bytes_eq key q) apart refl ∙ refl

-- ---- waits

module _ (q : List ℕ) where
  abbrev is_at_key : Wait → Bool
  is_at_key wait = bytes_eq wait.key q

  one_wait : (wait : Wait) (ws : List Wait) (m : Counts) (b : Bool) → is_at_key wait ≡ b
      → count_at (with_more m wait.key 1) q + length (filter is_at_key ws) ≡ count_at m q + length (cond b (wait ∷ filter is_at_key ws) (filter is_at_key ws))
  one_wait wait ws m true at = let more = at_more q m wait.key 1 true (same_test wait.key q ∙ at) in omega (arith, more)
  one_wait wait ws m false apart = let same = at_more q m wait.key 1 false (same_test wait.key q ∙ apart) in omega (arith, same)

  pub waits_counted : (ws : List Wait) (m : Counts) → count_at (with_waits m ws) q ≡ count_at m q + length (filter is_at_key ws)
  waits_counted [] m = omega arith
  waits_counted (wait ∷ ws) m = waits_counted ws (with_more m wait.key 1) ∙ one_wait wait ws m (is_at_key wait) refl

-- the keys of two maps that have the same ones, after one more entry
module _ {X Y : Type 0} (k : List ℕ) (x : X) (y : Y) where
  abbrev KeysPut : Ordering → List ℕ × X → List (List ℕ × X) → List ℕ × Y → List (List ℕ × Y) → Type 0
  KeysPut o e es f fs = map (λ e. e.0) (by_order o ((k, x) ∷ e ∷ es) ((e.0, x) ∷ es) (e ∷ put key_cmp k x es)) ≡ map (λ e. e.0) (by_order o ((k, y) ∷ f ∷ fs) ((f.0, y) ∷ fs) (f ∷ put key_cmp k y fs))

  keys_over : (o : Ordering) (e : List ℕ × X) (es : List (List ℕ × X)) (f : List ℕ × Y) (fs : List (List ℕ × Y)) → e.0 ≡ f.0 → map (λ e. e.0) (e ∷ es) ≡ map (λ e. e.0) (f ∷ fs)
      → map (λ e. e.0) es ≡ map (λ e. e.0) fs → map (λ e. e.0) (put key_cmp k x es) ≡ map (λ e. e.0) (put key_cmp k y fs) → KeysPut o e es f fs
  keys_over Less e es f fs head all rest more = ap (λ l. k ∷ l) all
  keys_over Equal e es f fs head all rest more = all
  keys_over Greater e es f fs head all rest more = ap (λ l. e.0 ∷ l) more ∙ ap (λ a. a ∷ map (λ e. e.0) (put key_cmp k y fs)) head

  keys_put : (es : List (List ℕ × X)) (fs : List (List ℕ × Y)) → map (λ e. e.0) es ≡ map (λ e. e.0) fs → map (λ e. e.0) (put key_cmp k x es) ≡ map (λ e. e.0) (put key_cmp k y fs)
  keys_put [] [] h = refl
  keys_put [] (f ∷ fs) h = cc
  keys_put (e ∷ es) [] h = cc
  keys_put (e ∷ es) (f ∷ fs) h =
      let head : e.0 ≡ f.0 = cc in
      let rest : map (λ e. e.0) es ≡ map (λ e. e.0) fs = cc in
      subst (λ q. map (λ e. e.0) (put key_cmp k x (e ∷ es)) ≡ map (λ e. e.0) (by_order (key_cmp k q) ((k, y) ∷ f ∷ fs) ((f.0, y) ∷ fs) (f ∷ put key_cmp k y fs))) head
      (keys_over (key_cmp k e.0) e es f fs head h rest (keys_put es fs rest))

  pub keys_insert : (m : finite.FinMap key_cmp X) (n : finite.FinMap key_cmp Y) → finite.keys m ≡ finite.keys n → finite.keys (finite.insert m k x) ≡ finite.keys (finite.insert n k y)
  keys_insert m n h =
      ap (map (λ e. e.0)) (finite.entries-insert nat_list_cmp_total m k x) ∙ keys_put (finite.entries m) (finite.entries n) h
      ∙ sym (ap (map (λ e. e.0)) (finite.entries-insert nat_list_cmp_total n k y))

no_keys_in : {X : Type 0} (es : List (List ℕ × X)) → length es ≡ 0 → map (λ e. e.0) es ≡ []
no_keys_in [] e = refl
no_keys_in (x ∷ es) e = absurd (omega (arith, e))

no_keys : (X : Type 0) → finite.keys {X = X} {R = key_cmp} finite.empty ≡ []
no_keys X = no_keys_in (finite.entries finite.empty) (sym (finite.len-entries finite.empty) ∙ finite.len-empty key_cmp X)

-- each key with a wait is counted, and no other
keys_counted : (ws : List Wait) (m : Counts) (keys : Keys) → finite.keys m ≡ finite.keys keys → finite.keys (with_waits m ws) ≡ finite.keys (fold (λ s wait. finite.insert s wait.key tt) keys ws)
keys_counted [] m keys h = h
keys_counted (wait ∷ ws) m keys h =
    keys_counted ws (with_more m wait.key 1) (finite.insert keys wait.key tt) (keys_insert wait.key (count_at m wait.key + 1) tt m keys h)

-- ---- several waits at a key

tied_self : (q : List ℕ) → eq_by_cmp key_cmp q q ≡ true
tied_self q = (eq_by_cmp_equiv nat_list_cmp_total).refl q

more_twice : (m : Counts) (key : List ℕ) (n : ℕ) → with_more (with_more m key 1) key (suc n) ≡ with_more m key (suc (suc n))
more_twice m key n = finite.same_map nat_list_cmp_total key_cmp-IsAntisymmetric _ _ (λ q.
    finite.get-insert nat_list_cmp_total (with_more m key 1) key (count_at (with_more m key 1) key + suc n) q
    ∙ either q (eq_by_cmp key_cmp q key) refl
    ∙ sym (finite.get-insert nat_list_cmp_total m key (count_at m key + suc (suc n)) q))
  where
    sum_is : count_at (with_more m key 1) key + suc n ≡ count_at m key + suc (suc n)
    sum_is = let one = at_more key m key 1 true (tied_self key) in omega (arith, one)

    either : (q : List ℕ) (b : Bool) → eq_by_cmp key_cmp q key ≡ b
        → cond b (Some (count_at (with_more m key 1) key + suc n)) (finite.get (with_more m key 1) q) ≡ cond b (Some (count_at m key + suc (suc n))) (finite.get m q)
    either q true same = ap Some sum_is
    either q false other = finite.get-insert nat_list_cmp_total m key (count_at m key + 1) q ∙ ap (λ b. cond b (Some (count_at m key + 1)) (finite.get m q)) other

-- this many more at a key, and no change if the number is 0
abbrev many : Counts → List ℕ → ℕ → Counts
many m key zero = m
many m key (suc n) = with_more m key (suc n)

many_twice : (m : Counts) (key : List ℕ) (n : ℕ) → many (with_more m key 1) key n ≡ many m key (suc n)
many_twice m key zero = refl
many_twice m key (suc n) = more_twice m key n

waits_are_many : (key calls : List ℕ) (m : Counts) → with_waits m (waits_for key calls) ≡ many m key (length calls)
waits_are_many key [] m = refl
waits_are_many key (call ∷ calls) m = waits_are_many key calls (with_more m key 1) ∙ many_twice m key (length calls)

-- one addition for all waits at a key
pub waits_at_once : (key calls : List ℕ) (m : Counts) → 0 < length calls → with_waits m (waits_for key calls) ≡ with_more m key (length calls)
waits_at_once key [] m h = absurd (omega (arith, h))
waits_at_once key (call ∷ calls) m h = waits_are_many key (call ∷ calls) m

pub count_after : (key calls : List ℕ) (m : Counts) → 0 < length calls → count_at (with_waits m (waits_for key calls)) key ≡ count_at m key + length calls
count_after key calls m h = ap (λ n. count_at n key) (waits_at_once key calls m h) ∙ at_more key m key (length calls) true (tied_self key)

same_order : (key calls : List ℕ) (m : Counts) → with_waits m (waits_for key (reverse calls)) ≡ with_waits m (waits_for key calls)
same_order key calls m = waits_are_many key (reverse calls) m ∙ ap (many m key) (length-reverse calls) ∙ sym (waits_are_many key calls m)

-- counts only grow
pub no_fewer : (q : List ℕ) (ws : List Wait) (m : Counts) → count_at m q ≤ count_at (with_waits m ws) q
no_fewer q ws m = let more = waits_counted q ws m in omega (arith, more)

-- so if the last count fits, the ones before it fit
pub still_fits : (q : List ℕ) (m : Counts) (some rest : List Wait) → count_at (with_waits m (some ++ rest)) q < 2 ^ 64 → count_at (with_waits m some) q < 2 ^ 64
still_fits q m some rest h =
    let less = no_fewer q rest (with_waits m some) in
    let same : count_at (with_waits m (some ++ rest)) q ≡ count_at (with_waits (with_waits m some) rest) q = ap (λ n. count_at n q) (fold-append (λ before wait. with_more before wait.key 1) m some rest) in
    omega (arith, less, same, h)

pub some_calls : (calls : List ℕ) → false ≡ (length calls == 0) → 0 < length calls
some_calls [] e = cc
some_calls (call ∷ calls) e = omega arith

-- ---- writers

abbrev pub writers_from : ℕ → List Receipt → List ℕ → List ℕ
writers_from n receipts key = map (λ item. item.0) (filter (λ item. changes_key key item.1) (enumerate_from n receipts))

module _ (key : List ℕ) where
  abbrev pub one_writer : ℕ → Receipt → List ℕ
  one_writer n receipt = cond (changes_key key receipt) (n ∷ []) []

  pub writer_first : (n : ℕ) (y : Receipt) (ys : List Receipt) → writers_from n (y ∷ ys) key ≡ one_writer n y ++ writers_from (n + 1) ys key
  writer_first n y ys = by_test (changes_key key y)
    where
      by_test : (b : Bool) → map (λ item. item.0) (cond b ((n, y) ∷ filter (λ item. changes_key key item.1) (enumerate_from (n + 1) ys)) (filter (λ item. changes_key key item.1) (enumerate_from (n + 1) ys))) ≡ cond b (n ∷ []) [] ++ writers_from (n + 1) ys key
      by_test true = refl
      by_test false = refl

  writers_more : (n : ℕ) (xs : List Receipt) (i : ℕ) (x : Receipt) → slice_get xs i ≡ Some x → writers_from n (take (suc i) xs) key ≡ writers_from n (take i xs) key ++ one_writer (n + i) x
  writers_more n [] i x e = cc
  writers_more n (y ∷ ys) zero x e =
      let same : y ≡ x = cc in
      writer_first n y [] ∙ append-nil (one_writer n y) ∙ ap (one_writer n) same ∙ ap (λ (k : ℕ). one_writer k x) (omega arith)
  writers_more n (y ∷ ys) (suc i) x e =
      writer_first n y (take (suc i) ys) ∙ ap (λ l. one_writer n y ++ l) (writers_more (n + 1) ys i x e ∙ ap (λ (k : ℕ). writers_from (n + 1) (take i ys) key ++ one_writer k x) (omega arith))
      ∙ sym (append_assoc (one_writer n y) (writers_from (n + 1) (take i ys) key) (one_writer (n + suc i) x))
      ∙ ap (λ l. l ++ one_writer (n + suc i) x) (sym (writer_first n y (take i ys)))

-- the writers of the first receipts were noted
abbrev pub AreWriters : CallLists → List Receipt → ℕ → Type 0
AreWriters lists receipts i = (q : List ℕ) → calls_at lists q ≡ calls_changing (take i receipts) q

pub no_writers : (receipts : List Receipt) → AreWriters finite.empty receipts 0
no_writers receipts q = ap (λ o. unwrap_or o []) (finite.get-empty key_cmp q)

abbrev adding : ℕ → ContentChange → List ℕ → List ℕ
adding i change calls = calls ++ i ∷ []

added : (i : ℕ) (o : Option ContentChange) (calls : List ℕ) → changed (adding i) o calls ≡ calls ++ cond (is_some o) (i ∷ []) []
added i None calls = sym (append-nil calls)
added i (Some change) calls = refl

pub writers_next : (block : List Invocation) (store : Storage) (i : ℕ) (call : Invocation) → slice_get block i ≡ Some call → (lists : CallLists) → AreWriters lists (receipts_of block store) i
    → AreWriters (with_call_changes i (finite.entries (ends call (store_before block i store)).writes) lists) (receipts_of block store) (i + 1)
writers_next block store i call at lists h q =
    let receipt = ends call (store_before block i store) in
    changes_at (adding i) q (finite.entries receipt.writes) lists (finite.entries_sorted receipt.writes)
    ∙ ap (λ o. changed (adding i) o (calls_at lists q)) (sym (finite.get-entries receipt.writes q))
    ∙ added i (finite.get receipt.writes q) (calls_at lists q)
    ∙ ap (λ l. l ++ one_writer q i receipt) (h q)
    ∙ ap (λ (k : ℕ). calls_changing (take i (receipts_of block store)) q ++ one_writer q k receipt) (sym (from_zero i))
    ∙ sym (writers_more q 0 (receipts_of block store) i receipt (receipt_at call block store i at))
    ∙ ap (λ n. calls_changing (take n (receipts_of block store)) q) (next i)
  where
    next : (n : ℕ) → suc n ≡ n + 1
    next n = omega arith

pub receipts_count : (block : List Invocation) (store : Storage) → length (receipts_of block store) ≡ length block
unfolding receipts_of
receipts_count [] store = refl
receipts_count (call ∷ block) store = ap suc (receipts_count block (store_after_call call store))

taken_all : (xs : List Receipt) → take (length xs) xs ≡ xs
taken_all [] = refl
taken_all (x ∷ xs) = ap (λ (l : List Receipt). x ∷ l) (taken_all xs)

pub all_writers : (block : List Invocation) (store : Storage) (lists : CallLists) (n : ℕ) → n ≡ length block → AreWriters lists (receipts_of block store) n → (key : List ℕ) → calls_at lists key ≡ calls_changing (receipts_of block store) key
all_writers block store lists n all h key =
    h key ∙ ap (λ k. calls_changing (take k (receipts_of block store)) key) (all ∙ sym (receipts_count block store)) ∙ ap (λ l. calls_changing l key) (taken_all (receipts_of block store))

-- ---- both

-- the keys that the run in order has are those of the definition
module _ (block : List Invocation) (store : Storage) (writers : CallLists) (h : (key : List ℕ) → calls_at writers key ≡ calls_changing (receipts_of block store) key) where
  abbrev calls : List CallView
  calls = calls_of block store

  abbrev waits : Counts
  waits = with_waits finite.empty (all_waits calls)

  same_key : (key : List ℕ) → hot_key writers waits key ≡ hot_key_of (receipts_of block store) calls key
  same_key key =
      let none : count_at finite.empty key ≡ 0 = ap (λ o. unwrap_or o 0) (finite.get-empty key_cmp key) in
      ap (λ (l : List ℕ). record { key = key; writers = l; waits = count_at waits key }) (h key)
      ∙ ap (λ (n : ℕ). record { key = key; writers = calls_changing (receipts_of block store) key; waits = n }) (waits_counted key (all_waits calls) finite.empty ∙ ap (λ n. n + length (filter (is_at_key key) (all_waits calls))) none ∙ from_zero (length (filter (is_at_key key) (all_waits calls))))

  same_keys : (keys : List (List ℕ)) → map (hot_key writers waits) keys ≡ map (hot_key_of (receipts_of block store) calls) keys
  same_keys [] = refl
  same_keys (key ∷ keys) = ap (λ (k : HotKeyView). k ∷ map (hot_key writers waits) keys) (same_key key) ∙ ap (λ (l : List HotKeyView). hot_key_of (receipts_of block store) calls key ∷ l) (same_keys keys)

  pub keys_are : hot_keys writers waits ≡ keys_of_calls block store
  keys_are =
      same_keys (finite.keys waits) ∙ ap (map (hot_key_of (receipts_of block store) calls)) (keys_counted (all_waits calls) finite.empty finite.empty (no_keys ℕ ∙ sym (no_keys (Unit {0}))))

-- ---- the counts of the run in order

-- a call's waits, as the run in order has them
same_counts : (table : CallLists) (receipts : List Receipt) (i : ℕ) → Names table receipts i → (keys : List (List ℕ)) (m : Counts)
    → with_waits m (flat_map (λ key. waits_for key (calls_at table key)) keys) ≡ with_waits m (flat_map (waits_at receipts i) keys)
same_counts table receipts i names [] m = refl
same_counts table receipts i names (key ∷ keys) m =
    fold-append _ m (waits_for key (calls_at table key)) (flat_map (λ k. waits_for k (calls_at table k)) keys)
    ∙ ap (λ n. with_waits n (flat_map (λ k. waits_for k (calls_at table k)) keys)) (ap (λ l. with_waits m (waits_for key l)) (names key) ∙ same_order key (writers_named receipts key i) m)
    ∙ same_counts table receipts i names keys (with_waits m (waits_at receipts i key))
    ∙ sym (fold-append _ m (waits_at receipts i key) (flat_map (waits_at receipts i) keys))

-- the counts of the first calls
abbrev pub counts_of : List Invocation → Storage → ℕ → Counts
counts_of block store n = with_waits finite.empty (all_waits (map (call_view_of block store) (range_with_len 0 n)))

module _ (block : List Invocation) (store : Storage) (i : ℕ) (call : Invocation) (at : slice_get block i ≡ Some call) where
  pub counts_next : (table : CallLists) → Names table (receipts_of block store) i
      → with_waits (counts_of block store i) (waits_in table (keys_read call (store_before block i store))) ≡ counts_of block store (i + 1)
  counts_next table names =
      let old = map (call_view_of block store) (range_with_len 0 i) in
      same_counts table (receipts_of block store) i names (finite.keys (keys_read call (store_before block i store))) (counts_of block store i)
      ∙ ap (λ k. with_waits (counts_of block store i) (waits_over (receipts_of block store) i (keys_read_by k (store_before block i store)))) (sym at)
      ∙ sym (fold-append _ finite.empty (all_waits old) (waits_of block store i))
      ∙ ap (λ l. with_waits finite.empty (all_waits old ++ l)) (sym (append-nil (waits_of block store i)))
      ∙ ap (with_waits finite.empty) (sym (flat_map-append (λ (c : CallView). c.waits) old (call_view_of block store i ∷ [])))
      ∙ ap (λ l. with_waits finite.empty (all_waits l)) (sym (map-range_with_len_more (call_view_of block store) 0 i i (omega arith)))

-- ---- how many waits there are at most

module _ (receipts : List Receipt) (j : ℕ) (q : List ℕ) where
  at_one_key : (key calls : List ℕ) (b : Bool) → bytes_eq key q ≡ b → length (filter (is_at_key q) (waits_for key calls)) ≡ cond b (length calls) 0
  at_one_key key [] true e = refl
  at_one_key key [] false e = refl
  at_one_key key (call ∷ calls) true e = ap (λ (b : Bool). length (cond b (record { writer = call; key = key } ∷ filter (is_at_key q) (waits_for key calls)) (filter (is_at_key q) (waits_for key calls)))) e ∙ ap suc (at_one_key key calls true e)
  at_one_key key (call ∷ calls) false e = ap (λ (b : Bool). length (cond b (record { writer = call; key = key } ∷ filter (is_at_key q) (waits_for key calls)) (filter (is_at_key q) (waits_for key calls)))) e ∙ at_one_key key calls false e

  abbrev here : ℕ
  here = length (writers_named receipts q j)

  at_keys : (es : List (List ℕ × Unit {0})) → T (finite.is_sorted key_cmp es)
      → length (filter (is_at_key q) (flat_map (waits_at receipts j) (map (λ e. e.0) es))) ≡ cond (is_some (finite.find key_cmp q es)) here 0
  at_keys [] h = refl
  at_keys (e ∷ es) h =
      let rest = flat_map (waits_at receipts j) (map (λ e. e.0) es) in
      ap length (filter-append (is_at_key q) (waits_at receipts j e.0) rest) ∙ length-append (filter (is_at_key q) (waits_at receipts j e.0)) (filter (is_at_key q) rest)
      ∙ by_key (eq_by_cmp key_cmp q e.0) refl (at_keys es (and_yes (below_all key_cmp e.0 es) (finite.is_sorted key_cmp es) h).1)
    where
      by_key : (b : Bool) → eq_by_cmp key_cmp q e.0 ≡ b
          → length (filter (is_at_key q) (flat_map (waits_at receipts j) (map (λ e. e.0) es))) ≡ cond (is_some (finite.find key_cmp q es)) here 0
          → length (filter (is_at_key q) (waits_at receipts j e.0)) + length (filter (is_at_key q) (flat_map (waits_at receipts j) (map (λ e. e.0) es))) ≡ cond (is_some (cond b (Some e.1) (finite.find key_cmp q es))) here 0
      by_key true same others =
          let tie : key_cmp q e.0 ≡ Equal = tied (key_cmp q e.0) same in
          let key : q ≡ e.0 = key_cmp-IsAntisymmetric q e.0 tie in
          let none : finite.find key_cmp q es ≡ None = not_below q e.0 es tie (and_yes (below_all key_cmp e.0 es) (finite.is_sorted key_cmp es) h).0 in
          let own = at_one_key e.0 (writers_named receipts e.0 j) true (sym (same_test e.0 q) ∙ same) ∙ ap (λ k. length (writers_named receipts k j)) (sym key) in
          let zero_more = others ∙ ap (λ o. cond (is_some o) here 0) none in
          omega (arith, own, zero_more)
      by_key false apart others =
          let own = at_one_key e.0 (writers_named receipts e.0 j) false (sym (same_test e.0 q) ∙ apart) in
          omega (arith, own, others)

named_count : (receipts : List Receipt) (key : List ℕ) (j : ℕ) → length (writers_named receipts key j) ≤ j
named_count receipts key zero = let none = ap length (named_none receipts key) in omega (arith, none)
named_count receipts key (suc j) =
    let less = named_count receipts key j in
    let more = ap length (named_more receipts key j) in
    let one = noted_count (change_in (slice_get receipts j) key) (writers_named receipts key j) in
    omega (arith, less, more, one)
  where
    noted_count : (c : Option ContentChange) (calls : List ℕ) → length (noted j c calls) ≤ suc (length calls)
    noted_count (Some change.Gone) calls = omega arith
    noted_count c calls = omega arith

module _ (block : List Invocation) (store : Storage) (q : List ℕ) where
  of_call : (j : ℕ) → length (filter (is_at_key q) (waits_of block store j)) ≤ j
  of_call j =
      let keys : Keys = keys_read_by (slice_get block j) (store_before block j store) in
      let is = at_keys (receipts_of block store) j q (finite.entries keys) (finite.entries_sorted keys) in
      let less = within (is_some (finite.find key_cmp q (finite.entries keys))) in
      omega (arith, is, less)
    where
      within : (b : Bool) → cond b (length (writers_named (receipts_of block store) q j)) 0 ≤ j
      within true = named_count (receipts_of block store) q j
      within false = omega arith

  of_calls : (n : ℕ) → n ≤ 1024 → length (filter (is_at_key q) (all_waits (map (call_view_of block store) (range_with_len 0 n)))) ≤ n * 1024
  of_calls zero h = omega arith
  of_calls (suc n) h =
      let old = map (call_view_of block store) (range_with_len 0 n) in
      let less = of_calls n (omega (arith, h)) in
      let own = of_call n in
      let next : suc n ≡ n + 1 = omega arith in
      let more : all_waits (map (call_view_of block store) (range_with_len 0 (suc n))) ≡ all_waits old ++ (waits_of block store n ++ []) =
      ap (λ (k : ℕ). all_waits (map (call_view_of block store) (range_with_len 0 k))) next
      ∙ ap all_waits (map-range_with_len_more (call_view_of block store) 0 n n (omega arith)) ∙ flat_map-append (λ (c : CallView). c.waits) old (call_view_of block store n ∷ []) in
      let count = ap (λ l. length (filter (is_at_key q) l)) (more ∙ ap (λ l. all_waits old ++ l) (append-nil (waits_of block store n)))
      ∙ ap length (filter-append (is_at_key q) (all_waits old) (waits_of block store n)) ∙ length-append (filter (is_at_key q) (all_waits old)) (filter (is_at_key q) (waits_of block store n)) in
      omega (arith, less, own, count, h)

  pub few_waits : (n : ℕ) → n ≤ 1024 → count_at (counts_of block store n) q < 2 ^ 64
  few_waits n h =
      let none : count_at finite.empty q ≡ 0 = ap (λ o. unwrap_or o 0) (finite.get-empty key_cmp q) in
      let is = waits_counted q (all_waits (map (call_view_of block store) (range_with_len 0 n))) finite.empty in
      let less = of_calls n h in
      omega (arith, none, is, less, h)
