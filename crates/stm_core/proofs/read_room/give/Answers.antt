use Rattle.std.proofs.Common.{◌∙◌, get_or, ap}
use Rattle.read_set.specs.Origin.{Origin}
use Rattle.stm_state.specs.declared.state.Task.TheVariants.{Idle}
use Rattle.stm_state.specs.State.{with_task}
use Rattle.stm_state.specs.Steps.{counted, one_step}
use Rattle.scheduler.specs.Schedule.{state_of}
use Rattle.scheduler.specs.Workers.{with_answer}
use Rattle.stm_core.proofs.read_room.give.Goals as goal

pub returns-clause-state : goal.returns-clause-state
returns-clause-state c = λ v p.
    c.answer.ensures.state v p
    ∙ ap (λ (o : Origin). counted one_step c.args.worker (with_task c.args.worker (with_answer (record { key = c.args.key.now; value = c.args.contents.kept; origin = o }) (get_or c.args.scheduler.now.tasks c.args.worker Idle)) (state_of v p c.args.scheduler.now))) c.origins-kept.ensures.kept
