use Rattle.std.proofs.Common.{◌≡◌, drop}
use Rattle.debugger.specs.Replay.{store_with_receipts}
use Rattle.debugger.proofs.storage.store_left.Given as goal

abbrev pub invariant-loop-receipt : goal.invariant-loop-receipt
invariant-loop-receipt l = store_with_receipts l.left (drop l.receipt-index l.receipts) ≡ store_with_receipts l.store l.receipts
