-- Each call waits for earlier calls only.
use Rattle.std.proofs.Common.{◌≡◌, ◌<◌, ◌⊎◌, ◌++◌, ◌+◌, inl, inr, ℕ, zero, suc, List, [], ◌∷◌, length, Option, Some, None, refl, sym, ap, subst, ◌∙◌, arith}
use Rattle.std.specs.FinMap as finite
use Rattle.std.specs.List.{flat_map, range_with_len, slice_get}
use Rattle.std.specs.Option.{option_map}
use Rattle.std.proofs.lemmas.Option.{slice_get-get_or, slice_get-map, slice_get_within}
use Rattle.std.proofs.lemmas.List.FromFn.{get_or-map-range_with_len, length-map-range_with_len}
use Rattle.rv_ledger.specs.Call.{Invocation}
use Rattle.rv_ledger.specs.Change.{ContentChange}
use Rattle.rv_ledger.specs.Key.{Storage}
use Rattle.rv_ledger.specs.declared.change.Change.TheVariants as change
use Rattle.rv_ledger.specs.declared.receipt.Receipt.{Receipt}
use Rattle.rv_step.specs.Fold.{receipts_of, store_before}
use Rattle.conflicts.specs.Paths.{WaitsFor, waits_in_call}
use Rattle.conflicts.specs.Waits.{CallView, Wait, call_view_of, calls_of, change_in, keys_read_by, waits_at, waits_for, writers_named}
use Rattle.conflicts.proofs.Noted.{named_more, named_none, noted}

-- each call waits for earlier ones only
abbrev pub AreEarlier : List CallView → Type 0
AreEarlier calls = (j i : ℕ) → WaitsFor calls j i → i < j

abbrev AreBelow : ℕ → List ℕ → Type 0
AreBelow j calls = (k w : ℕ) → slice_get calls k ≡ Some w → w < j

noted_below : (i : ℕ) (c : Option ContentChange) (calls : List ℕ) → AreBelow i calls → AreBelow (suc i) (noted i c calls)
noted_below i None calls h k w e = let less = h k w e in omega (arith, less)
noted_below i (Some c) calls h zero w e = let same : i ≡ w = cc in omega (arith, same)
noted_below i (Some (change.Sum amount)) calls h (suc k) w e = let less = h k w e in omega (arith, less)
noted_below i (Some (change.Value value)) calls h (suc k) w e = cc
noted_below i (Some change.Gone) calls h (suc k) w e = cc

none_below : (j : ℕ) → AreBelow j []
none_below j k w e = cc

named_below : (receipts : List Receipt) (key : List ℕ) (j : ℕ) → AreBelow j (writers_named receipts key j)
named_below receipts key zero = subst (AreBelow zero) (sym (named_none receipts key)) (none_below zero)
named_below receipts key (suc j) =
    subst (AreBelow (suc j)) (sym (named_more receipts key j))
    (noted_below j (change_in (slice_get receipts j) key) (writers_named receipts key j) (named_below receipts key j))

abbrev WaitBelow : ℕ → List Wait → Type 0
WaitBelow j waits = (k : ℕ) (wait : Wait) → slice_get waits k ≡ Some wait → wait.writer < j

for_below : (key : List ℕ) (j : ℕ) (calls : List ℕ) → AreBelow j calls → WaitBelow j (waits_for key calls)
for_below key j [] h k wait e = cc
for_below key j (x ∷ calls) h zero wait e =
    let first : Wait = record { writer = x; key = key } in
    let same : first ≡ wait = cc in
    subst (λ (w : Wait). w.writer < j) same (h zero x refl)
for_below key j (x ∷ calls) h (suc k) wait e = for_below key j calls (λ n w is. h (suc n) w is) k wait e

append_below : (j : ℕ) (left right : List Wait) → WaitBelow j left → WaitBelow j right → WaitBelow j (left ++ right)
append_below j [] right l r k wait e = r k wait e
append_below j (x ∷ left) right l r zero wait e = l zero wait e
append_below j (x ∷ left) right l r (suc k) wait e = append_below j left right (λ n w is. l (suc n) w is) r k wait e

nothing_below : (j : ℕ) → WaitBelow j []
nothing_below j k wait e = cc

flat_below : (receipts : List Receipt) (j : ℕ) (keys : List (List ℕ)) → WaitBelow j (flat_map (waits_at receipts j) keys)
flat_below receipts j [] = nothing_below j
flat_below receipts j (key ∷ keys) =
    append_below j (waits_at receipts j key) (flat_map (waits_at receipts j) keys)
    (for_below key j (writers_named receipts key j) (named_below receipts key j)) (flat_below receipts j keys)

pub at_index : (a n j : ℕ) → (slice_get (range_with_len a n) j ≡ None) ⊎ (slice_get (range_with_len a n) j ≡ Some (a + j))
at_index a zero j = inl refl
at_index a (suc n) zero = inr (ap (λ (k : ℕ). Some k) (omega arith))
at_index a (suc n) (suc j) = onward (at_index (a + 1) n j)
  where
    onward : ((slice_get (range_with_len (a + 1) n) j ≡ None) ⊎ (slice_get (range_with_len (a + 1) n) j ≡ Some (a + 1 + j))) → (slice_get (range_with_len (a + 1) n) j ≡ None) ⊎ (slice_get (range_with_len (a + 1) n) j ≡ Some (a + suc j))
    onward (inl e) = inl e
    onward (inr e) = inr (e ∙ ap (λ (k : ℕ). Some k) (omega arith))

module _ (block : List Invocation) (store : Storage) where
  abbrev called : Option ℕ → List Wait
  called o = waits_in_call (option_map (call_view_of block store) o)

  called_below : (j : ℕ) (o : Option ℕ) → ((o ≡ None) ⊎ (o ≡ Some (0 + j))) → WaitBelow j (called o)
  called_below j None h k wait e = cc
  called_below j (Some n) (inl h) k wait e = cc
  called_below j (Some n) (inr h) k wait e =
      let same : n ≡ 0 + j = cc in
      let less = flat_below (receipts_of block store) n (finite.keys (keys_read_by (slice_get block n) (store_before block n store))) k wait e in
      omega (arith, less, same)

  pub earlier : AreEarlier (calls_of block store)
  earlier j i (key, (k, e)) =
      called_below j (slice_get (range_with_len 0 (length block)) j) (at_index 0 (length block) j) k (record { writer = i; key = key })
      (ap (λ (o : Option CallView). slice_get (waits_in_call o) k) (sym (slice_get-map (call_view_of block store) (range_with_len 0 (length block)) j)) ∙ e)

  pub count_is : length (calls_of block store) ≡ length block
  count_is = length-map-range_with_len (call_view_of block store) 0 (length block)

  -- a call that is there
  pub call_at : (i : ℕ) (call : Invocation) → slice_get block i ≡ Some call → slice_get (calls_of block store) i ≡ Some (call_view_of block store i)
  call_at i call at =
      let within : i < length block = slice_get_within block i call at in
      slice_get-get_or (calls_of block store) i (call_view_of block store i) (subst (λ (n : ℕ). i < n) (sym count_is) within)
      ∙ ap Some (get_or-map-range_with_len (call_view_of block store) 0 (length block) i i (call_view_of block store i) within (omega arith))
