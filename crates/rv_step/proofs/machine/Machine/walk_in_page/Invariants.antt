use Rattle.std.proofs.Common.{◌-◌, ◌≡◌, ◌≤◌, ◌%◌}
use Rattle.rv_mem.specs.Code.{IsCode}
use Rattle.rv_step.specs.PageSteps.{machine_at}
use Rattle.rv_step.specs.Walks.{Walks}
use Rattle.rv_step.proofs.machine.Machine.walk_in_page.Given as goal

abbrev pub invariant-loop-made : goal.invariant-loop-made
invariant-loop-made l = record {
  walks : Walks l.fn.stop l.made l.fn.self (machine_at l.self l.first l.position);
  within : l.made ≤ l.most;
  code : IsCode l.self.memory l.first l.code;
  even : (machine_at l.self l.first l.position).pc % 4 ≡ 0;
}

abbrev pub decreases-loop-made : goal.decreases-loop-made
decreases-loop-made l = l.most - l.made
