use Rattle.std.proofs.Common.{◌≡◌, ◌≤◌, ℕ, List, All, drop}
use Rattle.conflicts.specs.Greatest.{greatest_from}
use Rattle.conflicts.specs.Waits.{waits_for}
use Rattle.conflicts.proofs.paths.greatest_from.Given as goal

abbrev pub invariant-loop-call : goal.invariant-loop-call
invariant-loop-call l = record {
  value : (key : List ℕ) → greatest_from l.paths l.greatest (waits_for key (drop l.call-index l.calls)) ≡ greatest_from l.fn.paths l.fn.least (waits_for key l.fn.calls);
  bound : (most : ℕ) → l.fn.least ≤ most → All (λ path. path ≤ most) l.fn.paths → l.greatest ≤ most;
}
