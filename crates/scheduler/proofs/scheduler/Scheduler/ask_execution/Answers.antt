use Rattle.std.proofs.Common.{[], set, get_or, None, ap, ◌∙◌}
use Rattle.stm_state.specs.declared.state.Status.TheVariants.{Executing}
use Rattle.stm_state.specs.declared.state.CallState.{CallState}
use Rattle.stm_state.specs.declared.state.Task.TheVariants.{Running}
use Rattle.stm_state.specs.State.{fresh, is_ready, with_task}
use Rattle.scheduler.specs.Schedule.{Schedule, state_of}
use Rattle.scheduler.proofs.Cases.{run}
use Rattle.scheduler.proofs.Seen.{seen_call}
use Rattle.scheduler.proofs.scheduler.Scheduler.ask_execution.Goals as goal

pub returns-then-is_ready-clause-state : goal.returns-then-is_ready-clause-state
returns-then-is_ready-clause-state c =
    let i = c.next_execution-index.result in
    let test = seen_call (λ (k : CallState). is_ready k.status) i c.next_execution-index.ensures.state c.call.ensures c.is_ready.ensures ∙ c.if-is_ready.true in
    λ v p. c.run_again.ensures.state v p
    ∙ ap (λ (t : Schedule). with_task c.args.worker (Running i [] None) (state_of v p t)) c.set_status.ensures
    ∙ ap (λ (t : Schedule). with_task c.args.worker (Running i [] None) (state_of v p (record t { calls = set t.calls i (record (get_or t.calls i fresh) { status = Executing }) }))) c.next_execution-index.ensures.state
    ∙ run c.args.worker (state_of v p c.args.self.now) i c.next_execution-index.ensures.index test
