-- The next write is in range, whatever is read past the end.
use Rattle.std.proofs.Common.{below_more, subst, refl}
use Rattle.std.proofs.lemmas.List.{get_or_read_under}
use Rattle.receipts.specs.Ranges.{IsWriteInRange}
use Rattle.receipts.proofs.ranges.are_writes_in_range.Goals as goal

pub loop-key-preserved : goal.loop-key-preserved
loop-key-preserved c =
    below_more _ _ c.loop-key.invariant (λ d. rw (← c.as_slice-key-items.ensures) (subst IsWriteInRange (get_or_read_under _ _ _ _ d c.loop-key-item.is c.loop-key-test.true refl) c.is_write_in_range.ensures))
