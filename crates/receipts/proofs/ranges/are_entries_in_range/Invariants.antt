use Rattle.std.proofs.Common.{All}
use Rattle.std.specs.FinMap.{entries}
use Rattle.receipts.specs.Ranges.{IsEntryInRange}
use Rattle.receipts.proofs.ranges.are_entries_in_range.Given as goal

-- if the entries that are left are in range, all are
abbrev pub invariant-loop-key : goal.invariant-loop-key
invariant-loop-key l = All IsEntryInRange l.key-iterator → All IsEntryInRange (entries l.fn.store)
