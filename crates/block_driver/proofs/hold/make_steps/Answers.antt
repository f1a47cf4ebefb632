use Rattle.std.proofs.Common.{◌≡◌, None, Ok, Option, Some, subst}
use Rattle.block_driver.specs.declared.hold.Owed.{Owed}
use Rattle.block_driver.specs.Owed.{IsOneHeld}
use Rattle.block_driver.proofs.Leads.{led_on, not_led}
use Rattle.block_driver.proofs.Stepped.{held_at_end}
use Rattle.block_driver.proofs.hold.make_steps.Goals as goal

pub loop-init : goal.loop-init
loop-init g c = not_led c.args.worker c.args.core.now

pub loop-preserved : goal.loop-preserved
loop-preserved g c =
    let is = c.in-Ok-None.field-0-is in
    let none : c.in-Ok-None.field-0 ≡ None = cc in
    led_on c.args.worker c.loop.counter 1 c.args.core.now c.loop.core c.make_one.new.core c.loop.invariant
    (subst (λ (o : Option Owed). IsOneHeld c.args.worker c.loop.core c.make_one.new.core (Ok o)) none c.in-Ok-None.ensures)

pub returns-in-Ok-Some : goal.returns-in-Ok-Some
returns-in-Ok-Some g c =
    let is = c.in-Ok-Some.field-0-is in
    let some : c.in-Ok-Some.field-0 ≡ Some c.in-Ok-Some.owed = cc in
    held_at_end c.args.worker c.args.most c.loop.counter c.args.core.now c.loop.core c.make_one.new.core c.in-Ok-Some.owed c.loop-test.true c.loop.invariant
    (subst (λ (o : Option Owed). IsOneHeld c.args.worker c.loop.core c.make_one.new.core (Ok o)) some c.in-Ok-Some.ensures)
