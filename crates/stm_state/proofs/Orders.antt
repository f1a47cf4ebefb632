-- Once workers are done with a job, the receipts and the storage are those of running its calls in order.
use Rattle.std.proofs.Common.{◌≡◌, ◌<◌, ℕ, suc, List, [], ◌∷◌, length, map, get_or, slice_get, Option, None, Some, arith, refl, ap, ◌∙◌}
use Rattle.std.specs.FinMap.{get}
use Rattle.std.proofs.lemmas.List.{length-map, get_or-map}
use Rattle.rv_ledger.specs.Key.{Storage}
use Rattle.rv_ledger.specs.Call.{Invocation}
use Rattle.rv_ledger.specs.declared.receipt.Receipt.{Receipt}
use Rattle.rv_step.specs.Moment.{Reply}
use Rattle.rv_step.specs.Chain.{AreFrom, ends}
use Rattle.rv_ledger.specs.Applied.{apply_writes}
use Rattle.rv_step.specs.Fold.{receipts_of, store_after, store_after_call}
use Rattle.rv_step.proofs.Receipts.{one_receipt_lem}
use Rattle.stm_state.specs.State.{fresh}
use Rattle.stm_state.specs.Done.{last_receipt, borne_out_by, block_of, DoneIsInOrder}
use Rattle.stm_state.proofs.InvariantKept.{invariant_kept}
use Rattle.stm_state.proofs.Serials.{serial_at_done}

-- each call has the receipt that answers of the storage before it bear out
abbrev EndsEach : List Invocation → (ℕ → Storage) → (ℕ → Receipt) → Type 0
EndsEach calls before receipt = (i : ℕ) → i < length calls → (replies : List Reply) × AreFrom (before i) replies × (borne_out_by (slice_get calls i) replies ≡ Some (receipt i))

-- each storage is the one before it with the receipt's writes applied
abbrev LaysEach : List Invocation → (ℕ → Storage) → (ℕ → Receipt) → Type 0
LaysEach calls before receipt = (i : ℕ) → i < length calls → before (suc i) ≡ apply_writes (before i) (receipt i).writes

-- receipts and storages that follow from each other in this way are those of the calls in order
in_order : (calls : List Invocation) (before : ℕ → Storage) (receipt : ℕ → Receipt) (xs : List (Option Receipt)) → EndsEach calls before receipt → LaysEach calls before receipt
    → length xs ≡ length calls → ((i : ℕ) → i < length calls → get_or xs i None ≡ Some (receipt i)) → (xs ≡ map Some (receipts_of calls (before 0))) × (before (length calls) ≡ store_after calls (before 0))
unfolding receipts_of store_after
in_order [] before receipt [] each lays same has = (refl, refl)
in_order [] before receipt (x ∷ xs) each lays same has = absurd (omega (arith, same))
in_order (call ∷ calls) before receipt [] each lays same has = absurd (omega (arith, same))
in_order (call ∷ calls) before receipt (x ∷ xs) each lays same has =
    let own = each 0 (omega arith) in
    let one : receipt 0 ≡ ends call (before 0) = (one_receipt_lem call (before 0)).no_other own.0 (receipt 0) own.1 own.2 in
    let step : before 1 ≡ store_after_call call (before 0) = lays 0 (omega arith) ∙ ap (λ (r : Receipt). apply_writes (before 0) r.writes) one in
    let rest = in_order calls (λ i. before (suc i)) (λ i. receipt (suc i)) xs (λ i l. each (suc i) (omega (arith, l))) (λ i l. lays (suc i) (omega (arith, l))) (omega (arith, same)) (λ i l. has (suc i) (omega (arith, l))) in (
      (let head : x ≡ Some (ends call (before 0)) = has 0 (omega arith) ∙ ap Some one in
          let tail : xs ≡ map Some (receipts_of calls (store_after_call call (before 0))) = rest.0 ∙ ap (λ store. map Some (receipts_of calls store)) step in cc),
      rest.1 ∙ ap (store_after calls) step,
    )

-- once workers are done, the receipts and the storage are those of the calls in order
pub in_order_at_done : DoneIsInOrder
in_order_at_done calls store workers s reached done =
    let serial = serial_at_done (block_of calls store) workers s reached done in
    let sized = (invariant_kept (block_of calls store) workers s reached).sized in
    let all = in_order calls serial.before serial.receipt (map last_receipt s.calls) serial.ends serial.next (length-map s.calls last_receipt ∙ sized.calls)
    (λ i l. get_or-map last_receipt s.calls i fresh None (let e = sized.calls in omega (arith, e, l)) ∙ serial.has i l) in (
      all.0 ∙ ap (λ before. map Some (receipts_of calls before)) serial.first,
      λ key. serial.last key ∙ ap (λ before. get before key) (all.1 ∙ ap (store_after calls) serial.first),
    )
