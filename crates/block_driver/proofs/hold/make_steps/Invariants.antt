use Rattle.block_driver.specs.Led.{IsLed}
use Rattle.block_driver.proofs.hold.make_steps.Given as goal

abbrev pub invariant-loop : goal.invariant-loop
invariant-loop g l = IsLed l.worker l.counter l.fn.core l.core
