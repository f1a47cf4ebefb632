use Rattle.std.proofs.Common.{◌≡◌, ◌-◌, ◌<◌, ◌≤◌, ℕ, List, length, slice_get, Some, IsSome}
use Rattle.std.specs.FinMap as map
use Rattle.host_block.proofs.parts.first_unknown.Given as goal

abbrev pub invariant-loop-at : goal.invariant-loop-at
invariant-loop-at l = (k : ℕ) (key : List ℕ) → l.from ≤ k → k < l.at → slice_get l.keys k ≡ Some key → IsSome (map.get l.touched.bases key)

abbrev pub decreases-loop-at : goal.decreases-loop-at
decreases-loop-at l = length l.keys - l.at
