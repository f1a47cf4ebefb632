-- The storage before a call.
use Rattle.std.proofs.Common.{◌≡◌, ℕ, zero, suc, List, [], ◌∷◌, take, Option, Some, None, IfSome, refl, sym, ap, ◌∙◌}
use Rattle.std.specs.Prelude.{slice_get}
use Rattle.std.specs.Option.{option_map}
use Rattle.rv_ledger.specs.Key.{Storage}
use Rattle.rv_ledger.specs.Call.{Invocation}
use Rattle.rv_ledger.specs.declared.outcome.Outcome.{Outcome}
use Rattle.rv_ledger.specs.declared.receipt.Receipt.{Receipt}
use Rattle.rv_step.specs.Chain.{ends}
use Rattle.rv_step.specs.Fold.{receipts_of, store_after, store_after_call}
use Rattle.debugger.specs.Replay.{AgreesAtEnd, ReplayState, opened, store_with_receipts}
use Rattle.debugger.proofs.Moments.{last_is_receipt}

-- the first receipts of calls run in order leave the storage that the first calls leave
left_by_first : (calls : List Invocation) (index : ℕ) (store : Storage) → store_with_receipts store (take index (receipts_of calls store)) ≡ store_after (take index calls) store
unfolding receipts_of store_after store_with_receipts
left_by_first [] zero store = refl
left_by_first [] (suc index) store = refl
left_by_first (call ∷ calls) zero store = refl
left_by_first (call ∷ calls) (suc index) store = left_by_first calls index (store_after_call call store)

each_over : (call : Option Invocation) (store wanted : Storage) → store ≡ wanted → IfSome (option_map (λ (c : Invocation). let r : ReplayState = record { call = c; store = store; moment = 0 } in r) call) (λ r. r.store ≡ wanted)
each_over None store wanted e = tt
each_over (Some call) store wanted e = e

pub opened_over : (outcome : Outcome) (index : ℕ) → outcome.receipts.items ≡ receipts_of outcome.job.block outcome.job.store → IfSome (opened outcome index) (λ r. r.store ≡ store_after (take index outcome.job.block) outcome.job.store)
opened_over outcome index e =
    each_over (slice_get outcome.job.block index) (store_with_receipts outcome.job.store (take index outcome.receipts.items)) (store_after (take index outcome.job.block) outcome.job.store)
    (ap (λ (receipts : List Receipt). store_with_receipts outcome.job.store (take index receipts)) e ∙ left_by_first outcome.job.block index outcome.job.store)

-- a receipt of calls run in order is its call's over the storage that the calls before it leave
receipt_in_order : (calls : List Invocation) (index : ℕ) (store : Storage) (receipt : Receipt) → slice_get (receipts_of calls store) index ≡ Some receipt → IfSome (slice_get calls index) (λ call. receipt ≡ ends call (store_after (take index calls) store))
unfolding receipts_of store_after
receipt_in_order [] index store receipt e = tt
receipt_in_order (call ∷ calls) zero store receipt e = cc
receipt_in_order (call ∷ calls) (suc index) store receipt e = receipt_in_order calls index (store_after_call call store) receipt e

each_ends : (call : Option Invocation) (store wanted : Storage) (n : ℕ) (receipt : Receipt) → store ≡ wanted → IfSome call (λ c. receipt ≡ ends c wanted) → IfSome (option_map (λ (c : Invocation). let r : ReplayState = record { call = c; store = store; moment = 0 } in r) call) (λ r. AgreesAtEnd receipt (record r { moment = n }))
each_ends None store wanted n receipt same is = tt
each_ends (Some call) store wanted n receipt same is = λ over.
    let last = last_is_receipt call store n over in
    let own : ends call store ≡ receipt = ap (ends call) same ∙ sym is in
    (last.0 ∙ ap (λ (r : Receipt). r.pc) own, last.1 ∙ ap (λ (r : Receipt). r.regs) own)

pub opened_ends : (outcome : Outcome) (index n : ℕ) (receipt : Receipt) → outcome.receipts.items ≡ receipts_of outcome.job.block outcome.job.store → slice_get outcome.receipts.items index ≡ Some receipt → IfSome (opened outcome index) (λ r. AgreesAtEnd receipt (record r { moment = n }))
opened_ends outcome index n receipt e at =
    each_ends (slice_get outcome.job.block index) (store_with_receipts outcome.job.store (take index outcome.receipts.items)) (store_after (take index outcome.job.block) outcome.job.store) n receipt
    (ap (λ (receipts : List Receipt). store_with_receipts outcome.job.store (take index receipts)) e ∙ left_by_first outcome.job.block index outcome.job.store)
    (receipt_in_order outcome.job.block index outcome.job.store receipt (sym (ap (λ (receipts : List Receipt). slice_get receipts index) e) ∙ at))
