use Rattle.std.proofs.Common.{sym, ap, ◌∙◌}
use Rattle.stm_state.specs.declared.state.Task.TheVariants.{Idle}
use Rattle.stm_state.specs.State.{with_task}
use Rattle.scheduler.specs.Schedule.{Schedule, state_of}
use Rattle.scheduler.proofs.Cases.{nothing_again, all_again, one_again}
use Rattle.scheduler.proofs.scheduler.Scheduler.to_validate.Goals as goal

pub returns-then-not-is_validation_past-clause-state : goal.returns-then-not-is_validation_past-clause-state
returns-then-not-is_validation_past-clause-state c = λ v p.
    c.begin.ensures.state v p
    ∙ nothing_again c.args.worker (state_of v p c.args.self.now) c.args.call c.args.new_key _ (sym c.is_validation_past.ensures ∙ c.if-not-is_validation_past.true)

pub returns-then-new_key-clause-state : goal.returns-then-new_key-clause-state
returns-then-new_key-clause-state c = λ v p.
    c.begin-then-new_key.ensures.state v p
    ∙ ap (λ (t : Schedule). with_task c.args.worker Idle (state_of v p t)) c.set_validation.ensures
    ∙ all_again c.args.worker (state_of v p c.args.self.now) c.args.call c.args.new_key _ (sym c.is_validation_past.ensures ∙ c.if-not-is_validation_past.false) c.if-new_key.true

pub returns-else-new_key-clause-state : goal.returns-else-new_key-clause-state
returns-else-new_key-clause-state c = λ v p.
    c.begin-else-new_key.ensures.state v p
    ∙ one_again c.args.worker (state_of v p c.args.self.now) c.args.call c.args.new_key _ (sym c.is_validation_past.ensures ∙ c.if-not-is_validation_past.false) c.if-new_key.false
