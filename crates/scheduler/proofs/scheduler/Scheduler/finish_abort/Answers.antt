use Rattle.std.proofs.Common.{◌≡◌, ◌+◌, nat_lt, min, true, false, [], set, get_or, None, sym, ap, ◌∙◌}
use Rattle.stm_state.specs.declared.state.Status.TheVariants.{Executing}
use Rattle.stm_state.specs.declared.state.Task.TheVariants.{Idle, Running}
use Rattle.stm_state.specs.State.{fresh, with_task}
use Rattle.stm_state.specs.Steps.{counted, one_step, next_incarnation}
use Rattle.scheduler.specs.Schedule.{Schedule, state_of}
use Rattle.scheduler.proofs.Cases.{abort_runs, abort_rests}
use Rattle.scheduler.proofs.scheduler.Scheduler.finish_abort.Goals as goal

pub returns-then-is_execution_past-clause-state : goal.returns-then-is_execution_past-clause-state
returns-then-is_execution_past-clause-state c =
    let i = c.args.call in
    let test : nat_lt i c.args.self.now.execution ≡ true =
    ap (λ (t : Schedule). nat_lt i t.execution) (sym c.count_step.ensures)
    ∙ ap (λ (t : Schedule). nat_lt i t.execution) (sym c.lower_validation.ensures) ∙ sym c.is_execution_past.ensures ∙ c.if-is_execution_past.true in
    λ v p. c.run_again.ensures.state v p
    ∙ ap (λ (t : Schedule). with_task c.args.worker (Running i [] None) (state_of v p t)) c.restart.ensures
    ∙ ap (λ (t : Schedule). with_task c.args.worker (Running i [] None) (state_of v p (record t { calls = set t.calls i (record (next_incarnation (get_or t.calls i fresh)) { status = Executing }) }))) c.lower_validation.ensures
    ∙ ap (λ (t : Schedule). with_task c.args.worker (Running i [] None) (state_of v p (record t { calls = set t.calls i (record (next_incarnation (get_or t.calls i fresh)) { status = Executing }); validation = min t.validation (i + 1) }))) c.count_step.ensures
    ∙ ap (counted one_step c.args.worker) (abort_runs c.args.worker (state_of v p c.args.self.now) i test)

pub returns-else-is_execution_past-clause-state : goal.returns-else-is_execution_past-clause-state
returns-else-is_execution_past-clause-state c =
    let i = c.args.call in
    let test : nat_lt i c.args.self.now.execution ≡ false =
    ap (λ (t : Schedule). nat_lt i t.execution) (sym c.count_step.ensures)
    ∙ ap (λ (t : Schedule). nat_lt i t.execution) (sym c.lower_validation.ensures) ∙ sym c.is_execution_past.ensures ∙ c.if-is_execution_past.false in
    λ v p. c.begin.ensures.state v p
    ∙ ap (λ (t : Schedule). with_task c.args.worker Idle (state_of v p t)) c.ready.ensures
    ∙ ap (λ (t : Schedule). with_task c.args.worker Idle (state_of v p (record t { calls = set t.calls i (next_incarnation (get_or t.calls i fresh)) }))) c.lower_validation.ensures
    ∙ ap (λ (t : Schedule). with_task c.args.worker Idle (state_of v p (record t { calls = set t.calls i (next_incarnation (get_or t.calls i fresh)); validation = min t.validation (i + 1) }))) c.count_step.ensures
    ∙ ap (counted one_step c.args.worker) (abort_rests c.args.worker (state_of v p c.args.self.now) i test)
