use Rattle.std.proofs.Common.{false, get_or, ap, ◌∙◌}
use Rattle.stm_state.specs.declared.state.Task.{Task}
use Rattle.stm_state.specs.declared.state.Task.TheVariants.{Idle, Validating}
use Rattle.stm_state.specs.State.{with_task}
use Rattle.stm_state.specs.Steps.{counted, is_executed_at, one_step}
use Rattle.scheduler.specs.Schedule.{Schedule, state_of}
use Rattle.scheduler.specs.Workers.{failed_check}
use Rattle.scheduler.proofs.Cases.{check_ended, check_failed, check_stood}
use Rattle.scheduler.proofs.Seen.{seen_call}
use Rattle.scheduler.proofs.scheduler.Scheduler.finish_validation.Goals as goal

pub returns-then-not-is_executed_at-clause-state : goal.returns-then-not-is_executed_at-clause-state
returns-then-not-is_executed_at-clause-state c =
    let w = c.args.worker in
    let i = c.args.call in
    let n = c.args.incarnation in
    let test = seen_call (is_executed_at n) i c.count_step.ensures c.call.ensures c.is_executed_at.ensures ∙ c.if-not-is_executed_at.true in
    λ v p stands. c.begin.ensures.state v p
    ∙ ap (λ (t : Schedule). with_task w Idle (state_of v p t)) c.count_step.ensures
    ∙ ap (counted one_step w) (check_ended w (state_of v p c.args.self.now) i n c.args.left test)

pub returns-then-stands-clause-state : goal.returns-then-stands-clause-state
returns-then-stands-clause-state c =
    let w = c.args.worker in
    let i = c.args.call in
    let n = c.args.incarnation in
    let test = seen_call (is_executed_at n) i c.count_step.ensures c.call.ensures c.is_executed_at.ensures ∙ c.if-not-is_executed_at.false in
    λ v p stands. c.begin-then-stands.ensures.state v p
    ∙ ap (λ (t : Schedule). with_task w (Validating i n c.args.left false) (state_of v p t)) c.count_step.ensures
    ∙ ap (counted one_step w) (check_stood w (state_of v p c.args.self.now) i n c.args.left test (stands ∙ c.if-stands.true))

pub returns-else-stands-clause-state : goal.returns-else-stands-clause-state
returns-else-stands-clause-state c =
    let w = c.args.worker in
    let i = c.args.call in
    let n = c.args.incarnation in
    let test = seen_call (is_executed_at n) i c.count_step.ensures c.call.ensures c.is_executed_at.ensures ∙ c.if-not-is_executed_at.false in
    λ v p stands. c.fail_check.ensures.state v p
    ∙ ap (λ (t : Schedule). with_task w (failed_check (get_or t.tasks w Idle)) (state_of v p t)) c.count_step.ensures
    ∙ ap (λ (task : Task). counted one_step w (with_task w (failed_check task) (state_of v p c.args.self.now))) c.requires.checking
    ∙ ap (counted one_step w) (check_failed w (state_of v p c.args.self.now) i n c.args.left test (stands ∙ c.if-stands.false))
