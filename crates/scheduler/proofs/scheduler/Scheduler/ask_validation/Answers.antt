use Rattle.std.proofs.Common.{false, [], length, get_or, ap, ◌∙◌}
use Rattle.stm_state.specs.declared.state.CallState.{CallState}
use Rattle.stm_state.specs.declared.state.Task.TheVariants.{Validating}
use Rattle.stm_state.specs.State.{fresh, is_executed, with_task}
use Rattle.stm_state.specs.Steps.{recorded_reads}
use Rattle.scheduler.specs.declared.worker.TaskKind.{TaskKind}
use Rattle.scheduler.specs.Workers.{task_with}
use Rattle.scheduler.specs.Schedule.{Schedule, state_of}
use Rattle.scheduler.proofs.Cases.{validated}
use Rattle.scheduler.proofs.Seen.{seen_call}
use Rattle.scheduler.proofs.scheduler.Scheduler.ask_validation.Goals as goal

pub returns-then-is_executed-clause-state : goal.returns-then-is_executed-clause-state
returns-then-is_executed-clause-state c =
    let i = c.next_validation-index.result in
    let test = seen_call (λ (k : CallState). is_executed k.status) i c.next_validation-index.ensures.state c.call.ensures c.is_executed.ensures ∙ c.if-is_executed.true in
    λ v p. c.begin.ensures.state v p
    ∙ ap (λ (d : TaskKind). with_task c.args.worker (task_with d [] []) (state_of v p c.next_validation-index.new.self)) c.validation_of-task_kind.ensures
    ∙ ap (λ (k : CallState). with_task c.args.worker (Validating i k.incarnation (length (recorded_reads k.last)) false) (state_of v p c.next_validation-index.new.self)) c.call-then-is_executed.ensures
    ∙ ap (λ (t : Schedule). with_task c.args.worker (Validating i (get_or t.calls i fresh).incarnation (length (recorded_reads (get_or t.calls i fresh).last)) false) (state_of v p t)) c.next_validation-index.ensures.state
    ∙ validated c.args.worker (state_of v p c.args.self.now) i c.next_validation-index.ensures.index test
