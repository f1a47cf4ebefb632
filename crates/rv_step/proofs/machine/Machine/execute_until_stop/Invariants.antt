use Rattle.std.proofs.Common.{ℕ}
use Rattle.rv_step.specs.Meets.{Reaches}
use Rattle.rv_step.proofs.machine.Machine.execute_until_stop.Given as goal

abbrev pub invariant-loop-outcome : goal.invariant-loop-outcome
invariant-loop-outcome l = (n : ℕ) × Reaches n l.fn.self l.self

abbrev pub decreases-loop-outcome : goal.decreases-loop-outcome
decreases-loop-outcome l = l.self.gas
