use Rattle.std.proofs.Common.{◌≡◌, take}
use Rattle.rv_ledger.specs.Applied.{apply_receipts}
use Rattle.overlay.proofs.layers.copy_with_receipts.Given as goal

abbrev pub invariant-loop-receipt : goal.invariant-loop-receipt
invariant-loop-receipt l = l.after ≡ apply_receipts l.store (take l.receipt-index l.receipts)
