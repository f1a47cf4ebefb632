use Rattle.std.proofs.Common.{get_or, ap, ◌∙◌}
use Rattle.stm_state.specs.declared.state.Task.TheVariants.{Idle}
use Rattle.stm_state.specs.State.{with_task}
use Rattle.scheduler.specs.Schedule.{Schedule, state_of}
use Rattle.scheduler.specs.Workers.{with_answer}
use Rattle.scheduler.proofs.scheduler.Scheduler.answer.Goals as goal

pub returns-clause-state : goal.returns-clause-state
returns-clause-state c = λ v p.
    c.push.ensures.state v p
    ∙ ap (λ (t : Schedule). with_task c.args.worker (with_answer c.args.answer (get_or t.tasks c.args.worker Idle)) (state_of v p t)) c.count_step.ensures
