-- The copies are those of the reads that were gone through.
use Rattle.std.proofs.Common.{◌≡◌}
use Rattle.std.specs.Prelude.{take}
use Rattle.read_set.proofs.items.copies_of.Given as goal

abbrev pub invariant-loop-read : goal.invariant-loop-read
invariant-loop-read l = l.copies.items ≡ take l.read-index l.reads
