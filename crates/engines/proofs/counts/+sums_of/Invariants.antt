use Rattle.std.proofs.Common.{length}
use Rattle.engines.proofs.counts.+sums_of.Given as goal

-- the number of workers that are left
abbrev pub decreases-sums_of : goal.decreases-sums_of
decreases-sums_of l = length l.counts.now
