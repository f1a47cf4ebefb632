use Rattle.std.proofs.Common.{◌≡◌, drop}
use Rattle.std.specs.Prelude.{max}
use Rattle.std.specs.List.{fold}
use Rattle.conflicts.specs.Sums.{greatest_path}
use Rattle.conflicts.proofs.sums.greatest_path.Given as goal

abbrev pub invariant-loop-path : goal.invariant-loop-path
invariant-loop-path l = fold max l.greatest (drop l.path-index l.paths) ≡ greatest_path l.fn.paths
