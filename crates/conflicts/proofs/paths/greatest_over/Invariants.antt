use Rattle.std.proofs.Common.{◌≡◌, ◌≤◌, ℕ, All, map}
use Rattle.std.specs.List.{flat_map}
use Rattle.conflicts.specs.Calls.{calls_at}
use Rattle.conflicts.specs.Greatest.{greatest_from}
use Rattle.conflicts.specs.Table.{waits_in}
use Rattle.conflicts.specs.Waits.{waits_for}
use Rattle.conflicts.proofs.paths.greatest_over.Given as goal

abbrev pub invariant-loop-key : goal.invariant-loop-key
invariant-loop-key l = record {
  value : greatest_from l.paths l.greatest (flat_map (λ key. waits_for key (calls_at l.fn.named key)) (map (λ e. e.0) l.key-iterator)) ≡ greatest_from l.fn.paths 0 (waits_in l.fn.named l.fn.keys);
  bound : (most : ℕ) → All (λ path. path ≤ most) l.fn.paths → l.greatest ≤ most;
}
