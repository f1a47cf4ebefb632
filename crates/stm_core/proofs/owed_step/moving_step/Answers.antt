use Rattle.std.proofs.Common.{◌∙◌, ap}
use Rattle.stm_state.specs.declared.state.CallState.{CallState}
use Rattle.scheduler.specs.Schedule.{state_of}
use Rattle.stm_core.specs.declared.next_step.NextStep.TheVariants as next_step
use Rattle.stm_core.specs.declared.next_step.StepKind.TheVariants as kinds
use Rattle.stm_core.proofs.StepParts.{moves_next, moves_none}
use Rattle.stm_core.proofs.owed_step.moving_step.Goals as goal

pub returns-in-Some : goal.returns-in-Some
returns-in-Some c = λ keys new at v p.
    ap (λ (call : CallState). next_step.Make kinds.MoveKey c.args.call call.incarnation) c.call.ensures
    ∙ moves_next (state_of v p c.args.scheduler.now) c.args.call c.in-Some.field-0.now keys new (c.in-Some.ensures.moving c.args.call keys new at)

pub returns-in-None : goal.returns-in-None
returns-in-None c = λ keys new at v p.
    ap (λ (call : CallState). next_step.Make kinds.FinishExecution c.args.call call.incarnation) c.call.ensures
    ∙ moves_none (state_of v p c.args.scheduler.now) c.args.call keys new (c.in-None.ensures.moving c.args.call keys new at)
