-- The next receipt is in range, whatever is read past the end.
use Rattle.std.proofs.Common.{below_more, subst, refl}
use Rattle.std.proofs.lemmas.List.{get_or_read_under}
use Rattle.receipts.specs.Ranges.{IsReceiptInRange}
use Rattle.receipts.proofs.ranges.all_in_range.Goals as goal

pub loop-receipt-preserved : goal.loop-receipt-preserved
loop-receipt-preserved c =
    below_more _ _ c.loop-receipt.invariant (λ d. subst IsReceiptInRange (get_or_read_under _ _ _ _ d c.receipt-item.is c.loop-receipt-test.true refl) c.is_in_range.ensures)
