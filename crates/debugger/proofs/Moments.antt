-- Moments of a call over a storage.
use Rattle.std.proofs.Common.{◌≡◌, ℕ, ◌≤◌, true, false, refl, ap, ◌∙◌}
use Rattle.rv_ledger.specs.Key.{Storage}
use Rattle.rv_ledger.specs.Call.{Invocation}
use Rattle.rv_ledger.specs.declared.receipt.Receipt.{Receipt}
use Rattle.rv_step.specs.Step.{Progress, Going, Over}
use Rattle.rv_step.specs.Moment.{from_storage, is_over, machine_of, moment_from, moment_over, start}
use Rattle.rv_step.specs.Chain.{ends, receipt_at}
use Rattle.rv_step.proofs.Receipts.{going_within, over_ends}

-- a call that is not over has made no more steps than it had gas
pub within_gas : (call : Invocation) (store : Storage) (n : ℕ) → is_over (moment_over call store n) ≡ false → n ≤ call.gas
within_gas call store n e = going_within call store n e

receipt_stands : (limit : ℕ) (progress : Progress) → is_over progress ≡ true → ((machine_of progress).pc ≡ (receipt_at limit progress).pc) × ((machine_of progress).regs ≡ (receipt_at limit progress).regs)
receipt_stands limit (Going s) over = cc
receipt_stands limit (Over end out s) over = (refl, refl)

-- when it is over, it has the receipt's pc and registers
pub last_is_receipt : (call : Invocation) (store : Storage) (n : ℕ) → is_over (moment_over call store n) ≡ true → ((machine_of (moment_over call store n)).pc ≡ (ends call store).pc) × ((machine_of (moment_over call store n)).regs ≡ (ends call store).regs)
last_is_receipt call store n e =
    let at : Progress × Storage = moment_from from_storage n (Going (start call), store) in
    let is : receipt_at call.gas at.0 ≡ ends call store = over_ends call store n at refl e in
    let same = receipt_stands call.gas at.0 e in
    (same.0 ∙ ap (λ (r : Receipt). r.pc) is, same.1 ∙ ap (λ (r : Receipt). r.regs) is)
