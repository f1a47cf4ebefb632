use Rattle.std.proofs.Common.{get_or, ap, ◌∙◌}
use Rattle.stm_state.specs.declared.state.Task.TheVariants.{Idle, Marking, Moving}
use Rattle.stm_state.specs.State.{with_task}
use Rattle.scheduler.specs.Schedule.{Schedule, state_of}
use Rattle.scheduler.proofs.scheduler.Scheduler.drop_key.Goals as goal

pub returns-clause-moving : goal.returns-clause-moving
returns-clause-moving c = λ i key keys new h v p.
    c.drop_next_key.ensures.moving i key keys new (ap (λ (t : Schedule). get_or t.tasks c.args.worker Idle) c.count_step.ensures ∙ h) v p
    ∙ ap (λ (t : Schedule). with_task c.args.worker (Moving i keys new) (state_of v p t)) c.count_step.ensures

pub returns-clause-marking : goal.returns-clause-marking
returns-clause-marking c = λ i key keys h v p.
    c.drop_next_key.ensures.marking i key keys (ap (λ (t : Schedule). get_or t.tasks c.args.worker Idle) c.count_step.ensures ∙ h) v p
    ∙ ap (λ (t : Schedule). with_task c.args.worker (Marking i keys) (state_of v p t)) c.count_step.ensures
