use Rattle.std.proofs.Common.{ℕ, ◌<◌}
use Rattle.std.specs.Prelude.{slice_index_or}
use Rattle.rv_ledger.specs.declared.receipt.Receipt.{Receipt}
use Rattle.receipts.specs.Ranges.{IsReceiptInRange}
use Rattle.receipts.proofs.ranges.all_in_range.Given as goal

-- the receipts so far are in range
abbrev pub invariant-loop-receipt : goal.invariant-loop-receipt
invariant-loop-receipt l = (k : ℕ) → k < l.receipt-index → (d : Receipt) → IsReceiptInRange (slice_index_or l.receipts k d)
