use Rattle.std.proofs.Common.{◌<◌, ◌≤◌, Ok, arith}
use Rattle.rv_step.specs.Meets.{MeetsInstructions}
use Rattle.rv_step.specs.declared.outcome.InstructionOutcome.TheVariants as outcome
use Rattle.rv_step.proofs.PageSteps.{meets_on, reached_on}
use Rattle.rv_step.proofs.ProgramSteps.{reached_code}
use Rattle.rv_step.proofs.Reached.{further, here, next_takes_gas, not_next, reached_gas}
use Rattle.rv_step.proofs.machine.Machine.execute_until_stop.Goals as goal

pub loop-outcome-init : goal.loop-outcome-init
loop-outcome-init c = here _

pub execute_next-requires : goal.execute_next-requires
execute_next-requires c =
    let before = c.loop-outcome.invariant in
    reached_code c.args.program.now before.0 c.args.self.now c.loop-outcome.self before.1 c.requires

pub loop-outcome-preserved : goal.loop-outcome-preserved
loop-outcome-preserved c =
    let did : MeetsInstructions (Ok outcome.Next) c.loop-outcome.self c.execute_next.new.self = rw c.in-Next.is at c.in-Ok.ensures in
    further c.args.self.now did.last c.execute_next.new.self (reached_on did.count c.args.self.now c.loop-outcome.self did.last c.loop-outcome.invariant did.reached) did.did

pub loop-outcome-smaller : goal.loop-outcome-smaller
loop-outcome-smaller c =
    let did : MeetsInstructions (Ok outcome.Next) c.loop-outcome.self c.execute_next.new.self = rw c.in-Next.is at c.in-Ok.ensures in
    let last : c.execute_next.new.self.gas < did.last.gas = next_takes_gas did.last c.execute_next.new.self did.did in
    let before : did.last.gas ≤ c.loop-outcome.self.gas = reached_gas did.count c.loop-outcome.self did.last did.reached in
    omega arith

pub returns-in-Err-clause-did : goal.returns-in-Err-clause-did
returns-in-Err-clause-did c = meets_on _ c.args.self.now c.loop-outcome.self c.execute_next.new.self c.loop-outcome.invariant c.in-Err.ensures

pub returns-in_default : goal.returns-in_default
returns-in_default c = record {
  did = meets_on _ c.args.self.now c.loop-outcome.self c.execute_next.new.self c.loop-outcome.invariant c.in-Ok.ensures;
  last = not_next _ c.in_default.not-Next;
}
