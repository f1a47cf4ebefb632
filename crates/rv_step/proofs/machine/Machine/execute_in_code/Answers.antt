use Rattle.rv_step.proofs.PageSteps.{reached_on}
use Rattle.rv_step.proofs.ProgramSteps.{reached_code}
use Rattle.rv_step.proofs.Reached.{here}
use Rattle.rv_step.proofs.machine.Machine.execute_in_code.Goals as goal

pub loop-self-init : goal.loop-self-init
loop-self-init c = record { reached = here c.args.self.now; code = c.requires }

pub loop-self-preserved : goal.loop-self-preserved
loop-self-preserved c =
    let before = c.loop-self.self in
    let after = c.execute_in_page.new.self in
    let did = c.execute_in_page.ensures.reached in
    record {
      reached = reached_on did.0 c.args.self.now before after c.loop-self.invariant.reached did.1;
      code = reached_code c.args.program.now did.0 before after did.1 c.loop-self.invariant.code;
    }

pub returns-in-Ecall-clause-reached : goal.returns-in-Ecall-clause-reached
returns-in-Ecall-clause-reached c =
    let did = c.execute_in_page.ensures.reached in
    reached_on did.0 c.args.self.now c.loop-self.self c.execute_in_page.new.self c.loop-self.invariant.reached did.1

pub returns-in-Stopped-clause-reached : goal.returns-in-Stopped-clause-reached
returns-in-Stopped-clause-reached c =
    let did = c.execute_in_page.ensures.reached in
    reached_on did.0 c.args.self.now c.loop-self.self c.execute_in_page.new.self c.loop-self.invariant.reached did.1
