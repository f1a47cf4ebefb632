use Rattle.std.proofs.Common.{subst, sym}
use Rattle.stm_state.specs.Steps.{IncarnationLimit}
use Rattle.stm_core.specs.CoreState.{CoreState, IsRefused, step_of}
use Rattle.block_driver.proofs.Leads.{led_by}
use Rattle.block_driver.proofs.hold.make.Goals as goal

pub returns-in-Ok : goal.returns-in-Ok
returns-in-Ok g c = led_by c.args.worker (step_of c.args.kind) c.args.core.now c.make.new.self c.in-Ok.ensures.makes

pub returns-in-Err : goal.returns-in-Err
returns-in-Err g c =
    let refused = c.in-Err.ensures.refused in
    (refused.1, (step_of c.args.kind, subst (λ (b : CoreState). IsRefused c.args.worker (step_of c.args.kind) IncarnationLimit b) (sym refused.1) refused.0))
