use Rattle.std.proofs.Common.{◌≡◌, ◌+◌, ◌%◌, ◌^◌, ◌≤◌, arith}
use Rattle.rv_step.specs.PageSteps.{machine_at}
use Rattle.rv_step.proofs.PageSteps.{store_goes}
use Rattle.rv_step.proofs.machine.Machine.try_store.Goals as goal

pub returns-in-Ok : goal.returns-in-Ok
returns-in-Ok c =
    let first = c.args.first in
    let offset = c.args.position.now.offset in
    let next : (first + (offset + 4) % 2 ^ 64) % 2 ^ 32 ≡ ((first + offset) % 2 ^ 32 + 4) % 2 ^ 32 = omega arith in
    let enough : 2 ≤ c.args.position.now.gas = omega (arith, c.cost-cost.ensures, c.if-position-cost.false) in
    rw (next, c.cost-cost.ensures)
    (store_goes c.args.kind c.args.source c.args.base c.args.offset (machine_at c.args.self.now first c.args.position.now) c.store_number.new.memory enough (rw (c.address-address.ensures, c.get.ensures, c.get-value.ensures) at c.in-Ok.ensures))
