use Rattle.std.proofs.Common.{◌≡◌, take}
use Rattle.rv_ledger.specs.Applied.{apply_receipts}
use Rattle.overlay.specs.Overlay.{with_changes}
use Rattle.overlay.proofs.layers.apply_receipts.Given as goal

abbrev pub invariant-loop-receipt : goal.invariant-loop-receipt
invariant-loop-receipt l = with_changes l.base l.changes ≡ apply_receipts (with_changes l.base l.fn.over) (take l.receipt-index l.receipts)
