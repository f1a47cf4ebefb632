-- How the calls of a block follow one another.
use Rattle.std.proofs.Common.{◌≡◌, ◌||◌, ◌⊎◌, inl, inr, ℕ, zero, suc, Bool, true, false, cond, is_some, List, [], ◌∷◌, ◌++◌, length, drop, slice_get, Option, Some, refl, sym, ap, subst, ◌∙◌, arith}
use Rattle.std.specs.FinMap.{contains_key, contains_key-keys, entries, get, get-insert, insert}
use Rattle.std.specs.Cmp.{eq_by_cmp_equiv}
use Rattle.std.specs.Cmp.Lexicographic.{nat_list_cmp_total}
use Rattle.std.specs.Map.{keys_of}
use Rattle.std.specs.Ordering.{eq_by_cmp}
use Rattle.std.specs.List.{list_any}
use Rattle.std.proofs.Math.Seq.{drop-cons}
use Rattle.std.proofs.lemmas.List.{append_assoc, length-append}
use Rattle.std.proofs.lemmas.List.Folds.{list_any-append}
use Rattle.std.proofs.lemmas.Option.{get_or_from_slice_get, slice_get_within}
use Rattle.rv_ledger.specs.Applied.{apply_each, apply_writes}
use Rattle.rv_ledger.specs.Call.{Invocation}
use Rattle.rv_ledger.specs.Change.{ContentChange}
use Rattle.rv_ledger.specs.Key.{Storage, WriteMap, key_cmp}
use Rattle.rv_ledger.specs.declared.receipt.Receipt.{Receipt}
use Rattle.rv_step.specs.Chain.{ends}
use Rattle.rv_step.specs.Fold.{receipts_of, store_after, store_after_call}
use Rattle.host_block.specs.Changes.{change_after}
use Rattle.host_block.specs.Ordered.{IsRestOf, IsWritten, now_with}
use Rattle.host_block.proofs.Changing.{applied_write, same_key}

-- a list from the element of an index on
from_element : {X : Type 0} (xs : List X) (k : ℕ) (x : X) → slice_get xs k ≡ Some x → drop k xs ≡ x ∷ drop (suc k) xs
from_element xs k x h = drop-cons xs k x (slice_get_within xs k x h) ∙ ap (λ y. y ∷ drop (suc k) xs) (get_or_from_slice_get xs k x x h)

first_receipt : (call : Invocation) (calls : List Invocation) (now : Storage) → receipts_of (call ∷ calls) now ≡ ends call now ∷ receipts_of calls (store_after_call call now)
unfolding receipts_of
first_receipt call calls now = refl

first_store : (call : Invocation) (calls : List Invocation) (now : Storage) → store_after (call ∷ calls) now ≡ store_after calls (store_after_call call now)
unfolding store_after
first_store call calls now = refl

all_writes : (changes : WriteMap) (writes : WriteMap) (store : Storage) → now_with changes writes 0 store ≡ apply_writes (apply_writes store changes) writes
unfolding apply_writes
all_writes changes writes store = refl

-- one call has ended: its receipt, its writes, and the calls after it
pub one_ended : (calls : List Invocation) (store : Storage) (receipts : List Receipt) (changes : WriteMap) (call : Invocation) (receipt : Receipt)
    → slice_get calls (length receipts) ≡ Some call → receipt ≡ ends call (apply_writes store changes)
    → IsRestOf calls store receipts (drop (length receipts) calls) (apply_writes store changes)
    → IsRestOf calls store (receipts ++ receipt ∷ []) (drop (suc (length receipts)) calls) (now_with changes receipt.writes 0 store)
one_ended calls store receipts changes call receipt at is rest =
    let now : Storage = apply_writes store changes in
    let left : List Invocation = drop (suc (length receipts)) calls in
    let split : drop (length receipts) calls ≡ call ∷ left = from_element calls (length receipts) call at in
    let after : now_with changes receipt.writes 0 store ≡ store_after_call call now = all_writes changes receipt.writes store ∙ ap (λ (r : Receipt). apply_writes now r.writes) is in (
      append_assoc receipts (receipt ∷ []) (receipts_of left (now_with changes receipt.writes 0 store))
          ∙ ap (λ (rs : List Receipt). receipts ++ rs) (ap (λ (r : Receipt). r ∷ receipts_of left (now_with changes receipt.writes 0 store)) is
          ∙ ap (λ (s : Storage). ends call now ∷ receipts_of left s) after ∙ sym (first_receipt call left now) ∙ ap (λ cs. receipts_of cs now) (sym split))
          ∙ rest.0,
      ap (store_after left) after ∙ sym (first_store call left now) ∙ ap (λ cs. store_after cs now) (sym split) ∙ rest.1,
    )

-- all writes of the call that has ended are among the changes: its receipt is one of the receipts
pub one_kept : (calls : List Invocation) (store : Storage) (receipts : List Receipt) (changes : WriteMap) (receipt : Receipt) (count : ℕ)
    → drop count (entries receipt.writes) ≡ []
    → IsRestOf calls store (receipts ++ receipt ∷ []) (drop (suc (length receipts)) calls) (now_with changes receipt.writes count store)
    → IsRestOf calls store (receipts ++ receipt ∷ []) (drop (length (receipts ++ receipt ∷ [])) calls) (apply_writes store changes)
one_kept calls store receipts changes receipt count none rest =
    let now : now_with changes receipt.writes count store ≡ apply_writes store changes = ap (apply_each (apply_writes store changes)) none in
    let more : length (receipts ++ receipt ∷ []) ≡ suc (length receipts) = length-append receipts (receipt ∷ []) ∙ omega arith in
    subst (λ k. IsRestOf calls store (receipts ++ receipt ∷ []) (drop k calls) (apply_writes store changes)) (sym more)
    (subst (λ s. IsRestOf calls store (receipts ++ receipt ∷ []) (drop (suc (length receipts)) calls) s) now rest)

-- one more write of the call that has ended joins the changes
pub one_joined : (changes after writes : WriteMap) (store : Storage) (count next : ℕ) (key : List ℕ) (write : ContentChange)
    → slice_get (entries writes) count ≡ Some (key, write) → next ≡ suc count → after ≡ insert changes key (change_after (get changes key) write)
    → now_with after writes next store ≡ now_with changes writes count store
one_joined changes after writes store count next key write at one is =
    ap (λ n. now_with after writes n store) one ∙ ap (λ (m : WriteMap). now_with m writes (suc count) store) is
    ∙ ap (λ s. apply_each s (drop (suc count) (entries writes))) (applied_write store changes key write)
    ∙ sym (ap (apply_each (apply_writes store changes)) (from_element (entries writes) count (key, write) at))

-- a receipt more writes what the others write
pub written_before : (receipts : List Receipt) (receipt : Receipt) (key : List ℕ) → IsWritten receipts key → IsWritten (receipts ++ receipt ∷ []) key
written_before receipts receipt key h =
    list_any-append (λ (r : Receipt). contains_key r.writes key) receipts (receipt ∷ []) ∙ ap (λ b. b || list_any (λ (r : Receipt). contains_key r.writes key) (receipt ∷ [])) h

pub written_last : (receipts : List Receipt) (receipt : Receipt) (key : List ℕ) → contains_key receipt.writes key ≡ true → IsWritten (receipts ++ receipt ∷ []) key
written_last receipts receipt key h =
    list_any-append (λ (r : Receipt). contains_key r.writes key) receipts (receipt ∷ []) ∙ or_last (list_any (λ (r : Receipt). contains_key r.writes key) receipts) (contains_key receipt.writes key) h
  where
    or_last : (a b : Bool) → b ≡ true → (a || (b || false)) ≡ true
    or_last true b h = refl
    or_last false true h = refl
    or_last false false h = cc

same_as_itself : (key : List ℕ) → eq_by_cmp key_cmp key key ≡ true
same_as_itself key = (eq_by_cmp_equiv nat_list_cmp_total).refl key

-- the key of an entry is one of the keys
entry_has_key : (es : List (List ℕ × ContentChange)) (count : ℕ) (key : List ℕ) (write : ContentChange) → slice_get es count ≡ Some (key, write) → list_any (eq_by_cmp key_cmp key) (keys_of es) ≡ true
entry_has_key [] count key write h = cc
entry_has_key (e ∷ es) zero key write h = let first : e ≡ (key, write) = cc in ap (λ (x : List ℕ × ContentChange). eq_by_cmp key_cmp key x.0 || list_any (eq_by_cmp key_cmp key) (keys_of es)) first ∙ ap (λ b. b || list_any (eq_by_cmp key_cmp key) (keys_of es)) (same_as_itself key)
entry_has_key (e ∷ es) (suc count) key write h = or_rest (eq_by_cmp key_cmp key e.0) (list_any (eq_by_cmp key_cmp key) (keys_of es)) (entry_has_key es count key write h)
  where
    or_rest : (a b : Bool) → b ≡ true → (a || b) ≡ true
    or_rest true b h = refl
    or_rest false b h = h

-- a key of the changes with one more write was changed before, or is that of a write
pub one_written : (changes writes : WriteMap) (count : ℕ) (key : List ℕ) (write joined : ContentChange) (q : List ℕ) → slice_get (entries writes) count ≡ Some (key, write)
    → contains_key (insert changes key joined) q ≡ true → (contains_key changes q ≡ true) ⊎ (contains_key writes q ≡ true)
one_written changes writes count key write joined q at has = by (eq_by_cmp key_cmp q key) refl
  where
    by : (b : Bool) → eq_by_cmp key_cmp q key ≡ b → (contains_key changes q ≡ true) ⊎ (contains_key writes q ≡ true)
    by true e = inr (ap (contains_key writes) (same_key q key e) ∙ contains_key-keys writes key ∙ entry_has_key (entries writes) count key write at)
    by false e = inl (sym (ap (λ (o : Option ContentChange). is_some o) (get-insert nat_list_cmp_total changes key joined q ∙ ap (λ b. cond b (Some joined) (get changes q)) e)) ∙ has)
