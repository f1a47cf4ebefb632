use Rattle.std.proofs.Common.{◌≡◌, vec_capacity}
use Rattle.mvmap.specs.Slots.{seen_in}
use Rattle.mvmap.proofs.Sums.{HasPassed}
use Rattle.mvmap.proofs.walk.walk.Given as goal

abbrev pub invariant-loop-writer : goal.invariant-loop-writer
invariant-loop-writer l = record {
  passed : HasPassed (seen_in l.arena.records l.at_key) l.i l.below l.passed.items l.sum;
  room : vec_capacity l.passed ≡ vec_capacity l.fn.passed;
}

abbrev pub decreases-loop-writer : goal.decreases-loop-writer
decreases-loop-writer l = l.below
