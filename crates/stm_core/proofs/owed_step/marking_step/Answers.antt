use Rattle.std.proofs.Common.{◌∙◌, ap}
use Rattle.stm_state.specs.declared.state.CallState.{CallState}
use Rattle.scheduler.specs.Schedule.{state_of}
use Rattle.stm_core.specs.declared.next_step.NextStep.TheVariants as next_step
use Rattle.stm_core.specs.declared.next_step.StepKind.TheVariants as kinds
use Rattle.stm_core.proofs.StepParts.{marks_next, marks_none}
use Rattle.stm_core.proofs.owed_step.marking_step.Goals as goal

pub returns-in-Some : goal.returns-in-Some
returns-in-Some c = λ keys at v p.
    ap (λ (call : CallState). next_step.Make kinds.MarkEstimate c.args.call call.incarnation) c.call.ensures
    ∙ marks_next (state_of v p c.args.scheduler.now) c.args.call c.in-Some.field-0.now keys (c.in-Some.ensures.marking c.args.call keys at)

pub returns-in-None : goal.returns-in-None
returns-in-None c = λ keys at v p.
    ap (λ (call : CallState). next_step.Make kinds.FinishAbort c.args.call call.incarnation) c.call.ensures
    ∙ marks_none (state_of v p c.args.scheduler.now) c.args.call keys (c.in-None.ensures.marking c.args.call keys at)
