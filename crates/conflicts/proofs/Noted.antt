-- The table of the run in order names what the receipts of the calls before leave.
use Rattle.std.proofs.Common.{◌≡◌, ◌++◌, ◌+◌, ℕ, zero, suc, Bool, true, false, cond, List, [], ◌∷◌, map, reverse, Option, Some, None, T, refl, sym, ap, ◌∙◌, arith}
use Rattle.std.specs.FinMap as finite
use Rattle.std.specs.FinMap.Entries.{below_all}
use Rattle.std.specs.List.{flat_map, fold, range_with_len, slice_get}
use Rattle.std.specs.Option.{unwrap_or}
use Rattle.std.specs.Ordering.{eq_by_cmp, is_eq}
use Rattle.std.specs.declared.cmp.Ordering.{Ordering}
use Rattle.std.specs.declared.cmp.Ordering.TheVariants.{Less, Equal, Greater}
use Rattle.std.proofs.lemmas.List.{reverse-append}
use Rattle.std.proofs.lemmas.List.FromFn.{map-range_with_len_more}
use Rattle.std.specs.Cmp.Lexicographic.{nat_list_cmp_total}
use Rattle.std.proofs.Math.Facts.{and_yes}
use Rattle.rv_ledger.proofs.Entries.{key_cmp-IsAntisymmetric}
use Rattle.rv_ledger.proofs.SortedKeys.{not_below}
use Rattle.rv_ledger.specs.Call.{Invocation}
use Rattle.rv_ledger.specs.Change.{ContentChange}
use Rattle.rv_ledger.specs.Key.{Storage, key_cmp}
use Rattle.rv_ledger.specs.declared.change.Change.TheVariants as change
use Rattle.rv_ledger.specs.declared.receipt.Receipt.{Receipt}
use Rattle.rv_step.specs.Chain.{ends}
use Rattle.rv_step.specs.Fold.{receipts_of, store_after, store_after_call, store_before}
use Rattle.read_set.specs.Origin.{named}
use Rattle.mvmap.specs.Versions.{Entry}
use Rattle.mvmap.specs.Reading.{Visible, origin_in, visible_below, visible_over}
use Rattle.conflicts.specs.declared.key_waits.KeyWaits.{KeyWaits}
use Rattle.conflicts.specs.ByKey.{CallByKey, call_by_key, key_waits_at, key_waits_from, key_waits_over}
use Rattle.conflicts.specs.Calls.{CallLists, calls_at}
use Rattle.conflicts.specs.Reads.{keys_read}
use Rattle.conflicts.specs.Table.{after_changes, below_change, key_waits_in}
use Rattle.conflicts.specs.Waits.{change_in, change_version, gas_in, keys_read_by, versions_in, writers_named}

-- the calls that a read names after what the next call did
abbrev pub noted : ℕ → Option ContentChange → List ℕ → List ℕ
noted i None calls = calls
noted i (Some change) calls = i ∷ below_change change calls

-- ---- the definition

visible_more : (entries : ℕ → Option Entry) (i : ℕ) → visible_below entries (suc i) ≡ visible_over i (entries i) (visible_below entries i)
unfolding visible_below
visible_more entries i = refl

abbrev calls_in : Visible → List ℕ
calls_in seen = map (λ version. version.writer) (named (origin_in seen))

noted_over : (i : ℕ) (c : Option ContentChange) (below : Visible) → calls_in (visible_over i (change_version c) below) ≡ noted i c (calls_in below)
noted_over i (Some change.Gone) below = refl
noted_over i c below = refl

pub named_more : (receipts : List Receipt) (key : List ℕ) (i : ℕ) → writers_named receipts key (suc i) ≡ noted i (change_in (slice_get receipts i) key) (writers_named receipts key i)
named_more receipts key i =
    ap calls_in (visible_more (versions_in receipts key) i) ∙ noted_over i (change_in (slice_get receipts i) key) (visible_below (versions_in receipts key) i)

pub named_none : (receipts : List Receipt) (key : List ℕ) → writers_named receipts key zero ≡ []
unfolding visible_below
named_none receipts key = refl

-- ---- the table

pub tied : (o : Ordering) → is_eq o ≡ true → o ≡ Equal
tied Less e = cc
tied Equal e = refl
tied Greater e = cc

abbrev pub Changes : Type 0
Changes = List (List ℕ × ContentChange)

-- the calls at a key after a change there, if there is one
abbrev pub changed : (ContentChange → List ℕ → List ℕ) → Option ContentChange → List ℕ → List ℕ
changed next None calls = calls
changed next (Some change) calls = next change calls

-- some changes, each of which leaves other calls at its key
module _ (next : ContentChange → List ℕ → List ℕ) (q : List ℕ) where
  abbrev one_changed : CallLists → List ℕ × ContentChange → CallLists
  one_changed before e = finite.insert before e.0 (next e.1 (calls_at before e.0))

  at_insert : (before : CallLists) (key calls : List ℕ) (b : Bool) → eq_by_cmp key_cmp q key ≡ b → calls_at (finite.insert before key calls) q ≡ cond b calls (calls_at before q)
  at_insert before key calls true same = ap (λ o. unwrap_or o []) (finite.get-insert nat_list_cmp_total before key calls q ∙ ap (λ b. cond b (Some calls) (finite.get before q)) same)
  at_insert before key calls false other = ap (λ o. unwrap_or o []) (finite.get-insert nat_list_cmp_total before key calls q ∙ ap (λ b. cond b (Some calls) (finite.get before q)) other)

  module _ (e : List ℕ × ContentChange) (es : Changes) (before : CallLists) (h : T (finite.is_sorted key_cmp (e ∷ es))) where
    first_change : (b : Bool) → eq_by_cmp key_cmp q e.0 ≡ b → changed next (finite.find key_cmp q es) (calls_at (one_changed before e) q) ≡ changed next (cond b (Some e.1) (finite.find key_cmp q es)) (calls_at before q)
    first_change true same =
        let tie : key_cmp q e.0 ≡ Equal = tied (key_cmp q e.0) same in
        let key : q ≡ e.0 = key_cmp-IsAntisymmetric q e.0 tie in
        let order = and_yes (below_all key_cmp e.0 es) (finite.is_sorted key_cmp es) h in
        ap (λ o. changed next o (calls_at (one_changed before e) q)) (not_below q e.0 es tie order.0)
        ∙ at_insert before e.0 (next e.1 (calls_at before e.0)) true same
        ∙ ap (λ k. next e.1 (calls_at before k)) (sym key)
    first_change false other = ap (changed next (finite.find key_cmp q es)) (at_insert before e.0 (next e.1 (calls_at before e.0)) false other)

  pub changes_at : (es : Changes) (before : CallLists) → T (finite.is_sorted key_cmp es) → calls_at (fold one_changed before es) q ≡ changed next (finite.find key_cmp q es) (calls_at before q)
  changes_at [] before h = refl
  changes_at (e ∷ es) before h = changes_at es (one_changed before e) (and_yes (below_all key_cmp e.0 es) (finite.is_sorted key_cmp es) h).1 ∙ first_change e es before h (eq_by_cmp key_cmp q e.0) refl

-- the calls that reads name, ascending
abbrev rising : ℕ → ContentChange → List ℕ → List ℕ
rising i change calls = below_change change calls ++ i ∷ []

rising_noted : (i : ℕ) (c : Option ContentChange) (calls : List ℕ) → changed (rising i) c (reverse calls) ≡ reverse (noted i c calls)
rising_noted i None calls = refl
rising_noted i (Some (change.Sum amount)) calls = sym (reverse-append (i ∷ []) calls)
rising_noted i (Some (change.Value value)) calls = sym (reverse-append (i ∷ []) [])
rising_noted i (Some change.Gone) calls = sym (reverse-append (i ∷ []) [])

-- ---- the block fold

next_is : (i : ℕ) → i + 1 ≡ suc i
next_is i = omega arith

module _ (call : Invocation) where
  pub receipt_at : (block : List Invocation) (store : Storage) (i : ℕ) → slice_get block i ≡ Some call → slice_get (receipts_of block store) i ≡ Some (ends call (store_before block i store))
  unfolding receipts_of store_after
  receipt_at [] store i e = cc
  receipt_at (c ∷ block) store zero e = let same : c ≡ call = cc in ap (λ k. Some (ends k store)) same
  receipt_at (c ∷ block) store (suc i) e = receipt_at block (store_after_call c store) i e

  store_suc : (block : List Invocation) (store : Storage) (i : ℕ) → slice_get block i ≡ Some call → store_before block (suc i) store ≡ store_after_call call (store_before block i store)
  unfolding store_after
  store_suc [] store i e = cc
  store_suc (c ∷ block) store zero e = let same : c ≡ call = cc in ap (λ k. store_after_call k store) same
  store_suc (c ∷ block) store (suc i) e = store_suc block (store_after_call c store) i e

  pub store_next : (block : List Invocation) (store : Storage) (i : ℕ) → slice_get block i ≡ Some call → store_before block (i + 1) store ≡ store_after_call call (store_before block i store)
  store_next block store i e = ap (λ n. store_before block n store) (next_is i) ∙ store_suc block store i e

pub store_first : (block : List Invocation) (store : Storage) → store ≡ store_before block 0 store
unfolding store_after
store_first block store = refl

-- ---- both

abbrev pub Names : CallLists → List Receipt → ℕ → Type 0
Names table receipts i = (q : List ℕ) → calls_at table q ≡ reverse (writers_named receipts q i)

pub names_none : (receipts : List Receipt) → Names finite.empty receipts 0
names_none receipts q = ap (λ o. unwrap_or o []) (finite.get-empty key_cmp q) ∙ ap reverse (sym (named_none receipts q))

same_waits : (table : CallLists) (receipts : List Receipt) (i : ℕ) → Names table receipts i → (keys : List (List ℕ)) → flat_map (λ key. key_waits_from key (slice_get (calls_at table key) 0)) keys ≡ flat_map (key_waits_at receipts i) keys
same_waits table receipts i names [] = refl
same_waits table receipts i names (key ∷ keys) =
    ap (λ calls. key_waits_from key (slice_get calls 0) ++ flat_map (λ k. key_waits_from k (slice_get (calls_at table k) 0)) keys) (names key)
    ∙ ap (λ l. key_waits_at receipts i key ++ l) (same_waits table receipts i names keys)

module _ (block : List Invocation) (store : Storage) (i : ℕ) (call : Invocation) (at : slice_get block i ≡ Some call) where
  abbrev before : Storage
  before = store_before block i store

  pub names_next : (table : CallLists) → Names table (receipts_of block store) i → Names (after_changes i (finite.entries (ends call before).writes) table) (receipts_of block store) (i + 1)
  names_next table names q =
      changes_at (rising i) q (finite.entries (ends call before).writes) table (finite.entries_sorted (ends call before).writes)
      ∙ ap (λ o. changed (rising i) o (calls_at table q)) (sym (finite.get-entries (ends call before).writes q))
      ∙ ap (changed (rising i) (finite.get (ends call before).writes q)) (names q)
      ∙ rising_noted i (finite.get (ends call before).writes q) (writers_named (receipts_of block store) q i)
      ∙ ap reverse (ap (λ r. noted i (change_in r q) (writers_named (receipts_of block store) q i)) (sym (receipt_at call block store i at))
      ∙ sym (named_more (receipts_of block store) q i)
      ∙ ap (writers_named (receipts_of block store) q) (sym (next_is i)))

  pub call_is : (table : CallLists) (c : CallByKey) → Names table (receipts_of block store) i → c.waits ≡ key_waits_in table (keys_read call before) → c.gas ≡ (ends call before).gas → c ≡ call_by_key block store i
  call_is table c names waits gas =
      ap (λ (w : List KeyWaits). record { waits = w; gas = c.gas }) (waits ∙ same_waits table (receipts_of block store) i names (finite.keys (keys_read call before)) ∙ ap (λ k. key_waits_over (receipts_of block store) i (keys_read_by k before)) (sym at))
      ∙ ap (λ (g : ℕ). record { waits = (call_by_key block store i).waits; gas = g }) (gas ∙ ap gas_in (sym (receipt_at call block store i at)))

-- one more call
pub calls_more : (f : ℕ → CallByKey) (n : ℕ) (l : List CallByKey) (c : CallByKey) → l ≡ map f (range_with_len 0 n) → c ≡ f n → l ++ c ∷ [] ≡ map f (range_with_len 0 (n + 1))
calls_more f n l c e same = ap (λ k. k ++ c ∷ []) e ∙ ap (λ d. map f (range_with_len 0 n) ++ d ∷ []) same ∙ sym (map-range_with_len_more f 0 n n (omega arith))
