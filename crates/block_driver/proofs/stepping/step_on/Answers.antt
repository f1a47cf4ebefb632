use Rattle.std.proofs.Common.{◌-◌, Err, Ok, Result, arith, subst, sym}
use Rattle.block_driver.specs.declared.fault.StepFault.{StepFault}
use Rattle.block_driver.specs.Owed.{IsHeld, IsRunStep, run_steps}
use Rattle.block_driver.proofs.Leads.{not_led}
use Rattle.block_driver.proofs.RunSteps.{one_at_most}
use Rattle.block_driver.proofs.Stepped.{refused_at_once, stepped_on}
use Rattle.block_driver.proofs.stepping.step_on.Goals as goal

pub returns-then-most-eq0 : goal.returns-then-most-eq0
returns-then-most-eq0 g c = record { made = 0; few = omega arith; led = not_led c.args.worker c.args.core.now; tells = (sym c.if-most-eq0.true, tt); keeps = tt }

pub returns-in-Err : goal.returns-in-Err
returns-in-Err g c =
    let step = c.make_run_step-progress in
    let Step : Result Unit StepFault → Type 0 = λ made. IsRunStep c.args.worker c.args.progress step.result.0 c.args.core.now step.new.core made in
    let made : Step (Err c.in-Err.fault) = subst Step c.in-Err.is step.ensures in
    refused_at_once c.args.worker c.args.most c.args.progress step.result.0 c.args.core.now step.new.core c.in-Err.fault made.0 made.1 made.2

pub returns : goal.returns
returns g c =
    let w = c.args.worker in
    let has = c.args.progress in
    let step = c.make_run_step-progress in
    let steps = c.make_steps-told in
    let Step : Result Unit StepFault → Type 0 = λ made. IsRunStep w has step.result.0 c.args.core.now step.new.core made in
    let made : Step (Ok tt) = subst Step c.in_default.is step.ensures in
    let some = c.if-most-eq0.false in
    let one = one_at_most has in
    let held : IsHeld w (c.args.most - run_steps has) step.new.core steps.new.core steps.result = subst (λ n. IsHeld w (c.args.most - n) step.new.core steps.new.core steps.result) c.run_steps.ensures steps.ensures in
    stepped_on w c.args.most has step.result.0 c.begin_run.result.0 c.args.core.now step.new.core steps.new.core (omega (arith, some, one)) made.2 made.0 steps.result c.begin_run.result.1 held c.begin_run.ensures
