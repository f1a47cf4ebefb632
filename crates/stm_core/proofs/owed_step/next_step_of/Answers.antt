use Rattle.std.proofs.Common.{◌∙◌, ap, get_or, sym}
use Rattle.stm_state.specs.declared.state.Task.TheVariants.{Idle}
use Rattle.scheduler.specs.Schedule.{state_of}
use Rattle.stm_core.specs.CoreState.{next_step_of}
use Rattle.stm_core.proofs.StepParts.{marking_at, marking_has_keys, moving_at, moving_has_keys, running_at, validates_at}
use Rattle.stm_core.proofs.owed_step.next_step_of.Goals as goal

pub call-requires : goal.call-requires
call-requires c =
    let at = running_at (get_or c.args.scheduler.now.tasks c.args.worker Idle) c.in-Running-default-None.call _ c.in-Running-default-None.ensures in
    c.requires.running c.in-Running-default-None.call at.0 _ at.1

pub moving_step-requires-clause-keys : goal.moving_step-requires-clause-keys
moving_step-requires-clause-keys c = moving_has_keys (get_or c.args.scheduler.now.tasks c.args.worker Idle) c.in-Moving.call c.in-Moving.new_key c.in-Moving.ensures

pub marking_step-requires-clause-keys : goal.marking_step-requires-clause-keys
marking_step-requires-clause-keys c = marking_has_keys (get_or c.args.scheduler.now.tasks c.args.worker Idle) c.in-Marking.call c.in-Marking.ensures

pub moving_step-requires-clause-within : goal.moving_step-requires-clause-within
moving_step-requires-clause-within c =
    let at = moving_at (get_or c.args.scheduler.now.tasks c.args.worker Idle) c.in-Moving.call c.in-Moving.new_key c.in-Moving.ensures in
    c.requires.moving c.in-Moving.call at.0 c.in-Moving.new_key at.1

pub marking_step-requires-clause-within : goal.marking_step-requires-clause-within
marking_step-requires-clause-within c =
    let at = marking_at (get_or c.args.scheduler.now.tasks c.args.worker Idle) c.in-Marking.call c.in-Marking.ensures in
    c.requires.marking c.in-Marking.call at.0 at.1

pub returns-in-Validating : goal.returns-in-Validating
returns-in-Validating c = λ v p.
    c.validating_step.ensures (state_of v p c.args.scheduler.now)
    ∙ ap (next_step_of (state_of v p c.args.scheduler.now)) (sym (validates_at (get_or c.args.scheduler.now.tasks c.args.worker Idle) c.in-Validating.call c.in-Validating.incarnation c.in-Validating.left c.in-Validating.failed c.in-Validating.ensures))
