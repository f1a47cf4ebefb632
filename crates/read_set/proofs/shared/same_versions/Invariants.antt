use Rattle.std.proofs.Common.{◌≡◌, ◌<◌, ℕ, get_or}
use Rattle.read_set.specs.declared.origin.Version.{Version}
use Rattle.read_set.proofs.shared.same_versions.Given as goal

abbrev pub invariant-loop-i : goal.invariant-loop-i
invariant-loop-i l = (k : ℕ) (d : Version) → k < l.i → get_or l.left k d ≡ get_or l.right k d
