use Rattle.std.proofs.Common.{ℕ}
use Rattle.rv_mem.specs.Code.{HasCode}
use Rattle.rv_step.specs.Meets.{Reaches}
use Rattle.rv_step.proofs.machine.Machine.execute_in_code.Given as goal

abbrev pub invariant-loop-self : goal.invariant-loop-self
invariant-loop-self l = record {
  reached : (n : ℕ) × Reaches n l.fn.self l.self;
  code : HasCode l.self.memory l.program;
}

abbrev pub decreases-loop-self : goal.decreases-loop-self
decreases-loop-self l = l.self.gas
