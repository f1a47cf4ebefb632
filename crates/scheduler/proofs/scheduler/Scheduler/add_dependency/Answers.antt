use Rattle.std.proofs.Common.{[], set, get_or, Some, None, ap, ◌∙◌}
use Rattle.stm_state.specs.declared.state.Status.TheVariants.{Aborting}
use Rattle.stm_state.specs.declared.state.CallState.{CallState}
use Rattle.stm_state.specs.declared.state.Task.TheVariants.{Idle, Running}
use Rattle.stm_state.specs.State.{fresh, is_executed, with_task}
use Rattle.stm_state.specs.Steps.{counted, one_step}
use Rattle.scheduler.specs.Schedule.{Schedule, state_of}
use Rattle.scheduler.proofs.Cases.{parked_again, parked_there}
use Rattle.scheduler.proofs.Seen.{seen_call}
use Rattle.scheduler.proofs.scheduler.Scheduler.add_dependency.Goals as goal

pub returns-then-is_executed-clause-state : goal.returns-then-is_executed-clause-state
returns-then-is_executed-clause-state c =
    let test = seen_call (λ (k : CallState). is_executed k.status) c.args.on c.count_step.ensures c.call.ensures c.is_executed.ensures ∙ c.if-is_executed.true in
    λ v p. c.run_again.ensures.state v p
    ∙ ap (λ (t : Schedule). with_task c.args.worker (Running c.args.call [] None) (state_of v p t)) c.count_step.ensures
    ∙ ap (counted one_step c.args.worker) (parked_again c.args.worker (state_of v p c.args.self.now) c.args.call c.args.on test)

pub returns-else-is_executed-clause-state : goal.returns-else-is_executed-clause-state
returns-else-is_executed-clause-state c =
    let test = seen_call (λ (k : CallState). is_executed k.status) c.args.on c.count_step.ensures c.call.ensures c.is_executed.ensures ∙ c.if-is_executed.false in
    λ v p. c.begin.ensures.state v p
    ∙ ap (λ (t : Schedule). with_task c.args.worker Idle (state_of v p t)) c.park.ensures
    ∙ ap (λ (t : Schedule). with_task c.args.worker Idle (state_of v p (record t { calls = set t.calls c.args.call (record (get_or t.calls c.args.call fresh) { status = Aborting; parked = Some c.args.on }) }))) c.count_step.ensures
    ∙ ap (counted one_step c.args.worker) (parked_there c.args.worker (state_of v p c.args.self.now) c.args.call c.args.on test)
