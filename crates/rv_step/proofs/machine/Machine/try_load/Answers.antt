use Rattle.std.proofs.Common.{◌≡◌, ◌+◌, ◌%◌, ◌^◌, ◌≤◌, arith}
use Rattle.rv_step.specs.PageSteps.{machine_at}
use Rattle.rv_step.proofs.PageSteps.{load_goes}
use Rattle.rv_step.proofs.machine.Machine.try_load.Goals as goal

pub returns-in-Ok : goal.returns-in-Ok
returns-in-Ok c =
    let first = c.args.first in
    let offset = c.args.position.now.offset in
    let next : (first + (offset + 4) % 2 ^ 64) % 2 ^ 32 ≡ ((first + offset) % 2 ^ 32 + 4) % 2 ^ 32 = omega arith in
    let enough : 2 ≤ c.args.position.now.gas = omega (arith, c.cost-cost.ensures, c.if-position-cost.false) in
    rw (next, c.cost-cost.ensures, c.set.ensures, c.extended.ensures)
    (load_goes c.args.kind c.args.rd c.args.base c.args.offset (machine_at c.args.self.now first c.args.position.now) c.in-Ok.number enough (rw (c.address.ensures, c.get.ensures) at c.in-Ok.ensures.value))
