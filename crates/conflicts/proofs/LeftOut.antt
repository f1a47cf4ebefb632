-- The calls of a closed set have the same receipts without the others.
use Rattle.std.proofs.Common.{◌≡◌, ◌↔◌, ◌+◌, ◌++◌, ◌||◌, inl, inr, ℕ, zero, suc, Bool, true, false, cond, List, [], ◌∷◌, map, Option, Some, None, refl, sym, ap, subst, ◌∙◌, arith}
use Rattle.std.specs.FinMap as finite
use Rattle.std.specs.List.{AllByRecursion, enumerate_from, filter, flat_map, list_any, slice_get}
use Rattle.std.specs.Ordering.{eq_by_cmp}
use Rattle.std.proofs.lemmas.Map.Lookups.{exact_bytes}
use Rattle.std.proofs.lemmas.Map.Views.{tells_apart}
use Rattle.rv_ledger.specs.Call.{Invocation}
use Rattle.rv_ledger.specs.Change.{ContentChange}
use Rattle.rv_ledger.specs.Key.{Storage, WriteMap, key_cmp}
use Rattle.rv_ledger.specs.declared.change.Change.TheVariants as change
use Rattle.rv_ledger.specs.declared.receipt.Receipt.{Receipt}
use Rattle.rv_step.specs.Chain.{ends}
use Rattle.rv_ledger.specs.Applied.{apply_writes}
use Rattle.rv_step.specs.Fold.{receipts_of, store_after_call, store_before}
use Rattle.conflicts.specs.LeftOut.{IsClosedUnderWaits, Needs, items_where}
use Rattle.conflicts.specs.Paths.{IsWaitChain, WaitsFor, waits_in_call}
use Rattle.conflicts.specs.Reads.{Keys, keys_read}
use Rattle.conflicts.specs.Waits.{CallView, Wait, calls_of, change_in, keys_read_by, waits_at, waits_for, waits_of, waits_over, writers_named}
use Rattle.conflicts.proofs.Earlier.{call_at}
use Rattle.conflicts.proofs.LeftOutReads.{same_ends}
use Rattle.conflicts.proofs.LeftOutWrites.{hidden_after, left_after, same_after}
use Rattle.conflicts.proofs.Noted.{named_more, noted, store_first, store_next}

module _ (stays : ℕ → Bool) where
  abbrev AllStay : List ℕ → Type 0
  AllStay calls = AllByRecursion (λ i. stays i ≡ true) calls

  -- ---- the calls that a call waits for

  abbrev AllWritersStay : List Wait → Type 0
  AllWritersStay waits = AllByRecursion (λ wait. stays wait.writer ≡ true) waits

  by_index : (waits : List Wait) → ((k : ℕ) (wait : Wait) → slice_get waits k ≡ Some wait → stays wait.writer ≡ true) → AllWritersStay waits
  by_index [] h = tt
  by_index (wait ∷ waits) h = (h zero wait refl, by_index waits (λ k w is. h (suc k) w is))

  parts : (left right : List Wait) → AllWritersStay (left ++ right) → AllWritersStay left × AllWritersStay right
  parts [] right h = (tt, h)
  parts (wait ∷ left) right h = let rest = parts left right h.1 in ((h.0, rest.0), rest.1)

  writers_stay : (key writers : List ℕ) → AllWritersStay (waits_for key writers) → AllStay writers
  writers_stay key [] h = tt
  writers_stay key (writer ∷ writers) h = (h.0, writers_stay key writers h.1)

  named_stay : (receipts : List Receipt) (j : ℕ) (keys : List (List ℕ)) → AllWritersStay (flat_map (waits_at receipts j) keys) → (key : List ℕ) → list_any (eq_by_cmp key_cmp key) keys ≡ true → AllStay (writers_named receipts key j)
  named_stay receipts j [] h key is = cc
  named_stay receipts j (k ∷ keys) h key is =
      let both = parts (waits_at receipts j k) (flat_map (waits_at receipts j) keys) h in
      elim (eq_by_cmp key_cmp key k) as (λ b. eq_by_cmp key_cmp key k ≡ b → (b || list_any (eq_by_cmp key_cmp key) keys) ≡ true → AllStay (writers_named receipts key j)) [
        | true ↦ λ same _. subst (λ (q : List ℕ). AllStay (writers_named receipts q j)) (sym (tells_apart exact_bytes key k same)) (writers_stay k (writers_named receipts k j) both.0)
        | false ↦ λ _ later. named_stay receipts j keys both.1 key later
      ] refl is

  -- ---- a key after a call

  module _ (i : ℕ) (writes : WriteMap) (full left : Storage) (key calls : List ℕ) (same : AllStay calls → finite.get full key ≡ finite.get left key) where
    -- after a call that stays
    stays_same : (c : Option ContentChange) → finite.get writes key ≡ c → AllStay (noted i c calls) → finite.get (apply_writes full writes) key ≡ finite.get (apply_writes left writes) key
    stays_same None is all = same_after key writes full left (same all)
    stays_same (Some (change.Sum amount)) is all = same_after key writes full left (same all.1)
    stays_same (Some (change.Value value)) is all = hidden_after key writes full left (change.Value value) (λ before other. refl) is
    stays_same (Some change.Gone) is all = hidden_after key writes full left change.Gone (λ before other. refl) is

    -- after one that is left out
    leaves_same : stays i ≡ false → (c : Option ContentChange) → finite.get writes key ≡ c → AllStay (noted i c calls) → finite.get (apply_writes full writes) key ≡ finite.get left key
    leaves_same leave None is all = left_after key writes full is ∙ same all
    leaves_same leave (Some c) is all = let other : true ≡ false = sym all.0 ∙ leave in cc

  -- ---- items from an index on

  abbrev marked_from : {A : Type 0} → ℕ → List A → List (ℕ × A)
  marked_from i items = filter (λ item. stays item.0) (enumerate_from i items)

  abbrev items_from : {A : Type 0} → ℕ → List A → List A
  items_from i items = map (λ item. item.1) (marked_from i items)

  first_by : {A : Type 0} (i : ℕ) (item : A) (items : List A) (b : Bool) → stays i ≡ b → items_from i (item ∷ items) ≡ map (λ x. x.1) (cond b ((i, item) ∷ marked_from (i + 1) items) (marked_from (i + 1) items))
  first_by {A = A} i item items b e = ap (λ b. map (λ (x : ℕ × A). x.1) (cond b ((i, item) ∷ marked_from (i + 1) items) (marked_from (i + 1) items))) e

-- ---- the block

first_receipt : (call : Invocation) (rest : List Invocation) (store : Storage) → receipts_of (call ∷ rest) store ≡ ends call store ∷ receipts_of rest (store_after_call call store)
unfolding receipts_of
first_receipt call rest store = refl

no_receipts : (store : Storage) → receipts_of [] store ≡ []
unfolding receipts_of
no_receipts store = refl

module _ (stays : ℕ → Bool) (block : List Invocation) (store : Storage) where
  abbrev receipts : List Receipt
  receipts = receipts_of block store

  -- a call that stays reads keys whose writers stay
  reads_stay : IsClosedUnderWaits stays (calls_of block store) → (i : ℕ) (call : Invocation) → slice_get block i ≡ Some call → stays i ≡ true → (key : List ℕ) → finite.contains_key (keys_read call (store_before block i store)) key ≡ true → AllStay stays (writers_named receipts key i)
  reads_stay closed i call at stay key is =
      let keys : Keys = keys_read call (store_before block i store) in
      let waits : waits_of block store i ≡ waits_over receipts i keys = ap (λ (c : Option Invocation). waits_over receipts i (keys_read_by c (store_before block i store))) at in
      let all : AllWritersStay stays (waits_of block store i) = by_index stays (waits_of block store i)
      (λ k wait e. closed i wait.writer stay (wait.key, (k, ap (λ (c : Option CallView). slice_get (waits_in_call c) k) (call_at block store i call at) ∙ e))) in
      named_stay stays receipts i (finite.keys keys) (subst (AllWritersStay stays) waits all) key (sym (finite.contains_key-keys keys key) ∙ is)

  -- the calls from an index on: the storage before them, and the one that the calls that stay have left
  record IsRest (rest : List Invocation) (i : ℕ) (full left : Storage) : Type 0 where
    pub calls : (k : ℕ) → slice_get rest k ≡ slice_get block (i + k)
    pub ended : (k : ℕ) → slice_get (receipts_of rest full) k ≡ slice_get receipts (i + k)
    pub before : full ≡ store_before block i store
    pub agree : (key : List ℕ) → AllStay stays (writers_named receipts key i) → finite.get full key ≡ finite.get left key

  module _ (call : Invocation) (rest : List Invocation) (i : ℕ) (full left : Storage) (r : IsRest (call ∷ rest) i full left) where
    head_call : slice_get block i ≡ Some call
    head_call = ap (slice_get block) (omega arith) ∙ sym (r.calls 0)

    head_receipt : slice_get receipts i ≡ Some (ends call full)
    head_receipt = ap (slice_get receipts) (omega arith) ∙ sym (r.ended 0) ∙ ap (λ (l : List Receipt). slice_get l 0) (first_receipt call rest full)

    abbrev own : WriteMap
    own = (ends call full).writes

    named_next : (key : List ℕ) → writers_named receipts key (i + 1) ≡ noted i (finite.get own key) (writers_named receipts key i)
    named_next key =
        ap (writers_named receipts key) (omega arith) ∙ named_more receipts key i
        ∙ ap (λ (o : Option Receipt). noted i (change_in o key) (writers_named receipts key i)) head_receipt

    next_rest : (after : Storage) → ((key : List ℕ) → AllStay stays (noted i (finite.get own key) (writers_named receipts key i)) → finite.get (store_after_call call full) key ≡ finite.get after key) → IsRest rest (i + 1) (store_after_call call full) after
    next_rest after same = record {
      calls = λ k. r.calls (suc k) ∙ ap (slice_get block) (omega arith);
      ended = λ k. sym (ap (λ (l : List Receipt). slice_get l (suc k)) (first_receipt call rest full)) ∙ r.ended (suc k) ∙ ap (slice_get receipts) (omega arith);
      before = ap (store_after_call call) r.before ∙ sym (store_next call block store i head_call);
      agree = λ key all. same key (subst (AllStay stays) (named_next key) all);
    }

    same_receipt : IsClosedUnderWaits stays (calls_of block store) → stays i ≡ true → ends call full ≡ ends call left
    same_receipt closed stay = same_ends full left call (λ key is.
        r.agree key (reads_stay closed i call head_call stay key (ap (λ (s : Storage). finite.contains_key (keys_read call s) key) (sym r.before) ∙ is)))

    stay_on : ends call full ≡ ends call left → IsRest rest (i + 1) (store_after_call call full) (store_after_call call left)
    stay_on same = next_rest (store_after_call call left) (λ key all.
        stays_same stays i own full left key (writers_named receipts key i) (r.agree key) (finite.get own key) refl all
        ∙ ap (λ (receipt : Receipt). finite.get (apply_writes left receipt.writes) key) same)

    leave_on : stays i ≡ false → IsRest rest (i + 1) (store_after_call call full) left
    leave_on leave = next_rest left (λ key all.
        leaves_same stays i own full left key (writers_named receipts key i) (r.agree key) leave (finite.get own key) refl all)

    abbrev IsSame : Storage → Type 0
    IsSame after = receipts_of (items_from stays (i + 1) rest) after ≡ items_from stays (i + 1) (receipts_of rest (store_after_call call full))

    stay_step : stays i ≡ true → ends call full ≡ ends call left → IsSame (store_after_call call left) → receipts_of (items_from stays i (call ∷ rest)) left ≡ items_from stays i (receipts_of (call ∷ rest) full)
    stay_step stay same others =
        ap (λ (l : List Invocation). receipts_of l left) (first_by stays i call rest true stay)
        ∙ first_receipt call (items_from stays (i + 1) rest) left
        ∙ ap (λ (receipt : Receipt). receipt ∷ receipts_of (items_from stays (i + 1) rest) (store_after_call call left)) (sym same)
        ∙ ap (λ (l : List Receipt). ends call full ∷ l) others
        ∙ sym (ap (items_from stays i) (first_receipt call rest full) ∙ first_by stays i (ends call full) (receipts_of rest (store_after_call call full)) true stay)

    leave_step : stays i ≡ false → IsSame left → receipts_of (items_from stays i (call ∷ rest)) left ≡ items_from stays i (receipts_of (call ∷ rest) full)
    leave_step leave others =
        ap (λ (l : List Invocation). receipts_of l left) (first_by stays i call rest false leave)
        ∙ others
        ∙ sym (ap (items_from stays i) (first_receipt call rest full) ∙ first_by stays i (ends call full) (receipts_of rest (store_after_call call full)) false leave)

  rest_same : IsClosedUnderWaits stays (calls_of block store) → (rest : List Invocation) (i : ℕ) (full left : Storage) → IsRest rest i full left → receipts_of (items_from stays i rest) left ≡ items_from stays i (receipts_of rest full)
  rest_same closed [] i full left r = no_receipts left ∙ sym (ap (items_from stays i) (no_receipts full))
  rest_same closed (call ∷ rest) i full left r =
      elim (stays i) as (λ b. stays i ≡ b → receipts_of (items_from stays i (call ∷ rest)) left ≡ items_from stays i (receipts_of (call ∷ rest) full)) [
        | true ↦ λ stay.
            let same : ends call full ≡ ends call left = same_receipt call rest i full left r closed stay in
            stay_step call rest i full left r stay same (rest_same closed rest (i + 1) (store_after_call call full) (store_after_call call left) (stay_on call rest i full left r same))
        | false ↦ λ leave. leave_step call rest i full left r leave (rest_same closed rest (i + 1) (store_after_call call full) left (leave_on call rest i full left r leave))
      ] refl

  pub left_out : IsClosedUnderWaits stays (calls_of block store) → receipts_of (items_where stays block) store ≡ items_where stays receipts
  left_out closed = rest_same closed block 0 store store (record {
    calls = λ k. ap (slice_get block) (omega arith);
    ended = λ k. ap (slice_get receipts) (omega arith);
    before = store_first block store;
    agree = λ key all. refl;
  })

-- ---- the calls that one call needs

chain_more : (calls : List CallView) (j k i : ℕ) (chain : List ℕ) → IsWaitChain calls j (chain ++ k ∷ []) → WaitsFor calls k i → IsWaitChain calls j ((chain ++ k ∷ []) ++ i ∷ [])
chain_more calls j k i [] h waits = (h.0, (waits, tt))
chain_more calls j k i (a ∷ chain) h waits = (h.0, chain_more calls a k i chain h.1 waits)

needs_more : (calls : List CallView) (j k i : ℕ) → Needs calls j k → WaitsFor calls k i → Needs calls j i
needs_more calls j k i (inl same) waits = inr ([], (subst (λ (n : ℕ). WaitsFor calls n i) same waits, tt))
needs_more calls j k i (inr (chain, h)) waits = inr (chain ++ k ∷ [], chain_more calls j k i chain h waits)

pub needed_closed : (stays : ℕ → Bool) (calls : List CallView) (j : ℕ) → ((i : ℕ) → (stays i ≡ true) ↔ Needs calls j i) → IsClosedUnderWaits stays calls
needed_closed stays calls j h k i stay waits = (h i).1 (needs_more calls j k i ((h k).0 stay) waits)
