use Rattle.std.proofs.Common.{◌≡◌}
use Rattle.mvmap.specs.Reading.{is_walk}
use Rattle.mvmap.specs.Slots.{seen_in}
use Rattle.mvmap.proofs.walk.has_walk.Given as goal

abbrev pub invariant-loop-bottom : goal.invariant-loop-bottom
invariant-loop-bottom l =
    is_walk l.origin.passed l.origin.bottom (seen_in l.arena.records l.at_key l.i)
    ≡ is_walk l.left l.origin.bottom (seen_in l.arena.records l.at_key l.below)

abbrev pub decreases-loop-bottom : goal.decreases-loop-bottom
decreases-loop-bottom l = l.below
