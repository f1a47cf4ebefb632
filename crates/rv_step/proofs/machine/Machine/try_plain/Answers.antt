use Rattle.std.proofs.Common.{◌≡◌, ◌+◌, ◌%◌, ◌^◌, ◌≤◌, arith}
use Rattle.gas.specs.Costs.{cost_of}
use Rattle.rv_step.specs.PageSteps.{machine_at}
use Rattle.rv_step.proofs.PageSteps.{plain_goes}
use Rattle.rv_step.proofs.machine.Machine.try_plain.Goals as goal

pub returns-in-Some : goal.returns-in-Some
returns-in-Some c =
    let first = c.args.first in
    let next = c.in-Some.next in
    let back : (first + c.from-position.result) % 2 ^ 32 ≡ next = omega (arith, c.from-position.ensures) in
    let enough : cost_of c.args.instr.now ≤ c.args.position.now.gas = omega (arith, c.cost-cost.ensures, c.if-position-cost.false) in
    rw (back, c.cost-cost.ensures)
    (plain_goes c.args.instr.now (machine_at c.args.self.now first c.args.position.now) c.execute.new.registers next c.requires enough (rw c.pc.ensures at c.in-Some.ensures.done))
