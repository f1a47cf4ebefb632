use Rattle.std.proofs.Common.{◌≡◌, ◌<◌, ◌⊎◌, ℕ, ◌%◌}
use Rattle.rv_mem.specs.Code.{IsCode}
use Rattle.rv_step.specs.Meets.{Reaches}
use Rattle.rv_step.specs.PageSteps.{machine_at}
use Rattle.rv_step.proofs.machine.Machine.execute_in_page.Given as goal

abbrev pub invariant-loop-position : goal.invariant-loop-position
invariant-loop-position l = record {
  reached : (n : ℕ) × Reaches n l.fn.self (machine_at l.self l.first l.position);
  code : IsCode l.self.memory l.first l.code;
  even : (machine_at l.self l.first l.position).pc % 4 ≡ 0;
  inside : (l.position.offset < 4096) ⊎ (l.position.gas < l.fn.self.gas);
}

abbrev pub decreases-loop-position : goal.decreases-loop-position
decreases-loop-position l = l.position.gas
