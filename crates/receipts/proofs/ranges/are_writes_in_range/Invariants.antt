use Rattle.std.proofs.Common.{ℕ, List, ◌<◌}
use Rattle.std.specs.Prelude.{slice_index_or}
use Rattle.std.specs.FinMap.{entries}
use Rattle.rv_ledger.specs.Change.{ContentChange}
use Rattle.receipts.specs.Ranges.{IsWriteInRange}
use Rattle.receipts.proofs.ranges.are_writes_in_range.Given as goal

-- the writes so far are in range
abbrev pub invariant-loop-key : goal.invariant-loop-key
invariant-loop-key l = (k : ℕ) → k < l.key-index → (d : List ℕ × ContentChange) → IsWriteInRange (slice_index_or (entries l.writes) k d)
