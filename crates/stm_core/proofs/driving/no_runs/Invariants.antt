use Rattle.std.proofs.Common.{◌≡◌, None, replicate}
use Rattle.stm_core.proofs.driving.no_runs.Given as goal

abbrev pub invariant-loop : goal.invariant-loop
invariant-loop l = l.runs.items ≡ replicate l.counter None
