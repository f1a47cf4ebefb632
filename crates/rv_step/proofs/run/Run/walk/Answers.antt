use Rattle.std.proofs.Common.{◌≡◌, ◌∙◌, ap, true}
use Rattle.std.specs.Arc.{arc_value}
use Rattle.rv_step.specs.Run.{RunView, is_running}
use Rattle.rv_step.proofs.ProgramSteps.{run_code}
use Rattle.rv_step.proofs.Reached.{reached_keeps, reached_steps}
use Rattle.rv_step.proofs.Walks.{walk_between, walk_reaches}
use Rattle.rv_step.proofs.run.Run.walk.Goals as goal

pub walk-requires : goal.walk-requires
walk-requires c =
    let view : RunView = record { call = c.self.inside.call; machine = c.self.inside.machine.value; answers = c.self.inside.answers.items; stage = c.self.inside.stage } in
    rw (c.deref.ensures, c.deref_mut.ensures.value) (run_code (arc_value c.base.result.now) view c.self.invariant (rw c.image.ensures at c.base.ensures))

pub invariant_of-self : goal.invariant_of-self
invariant_of-self c =
    let running : is_running c.self.inside.stage ≡ true = ap (λ (r : RunView). is_running r.stage) c.self.view_is ∙ c.requires in
    reached_keeps c.walk.result c.self.inside.call c.self.inside.machine.value c.walk.new.self c.self.inside.answers.items c.self.inside.stage c.self.invariant running
    (walk_reaches c.args.stop c.walk.result _ c.walk.new.self (rw c.deref_mut.ensures.value at c.walk.ensures.walks))

pub returns-clause-steps : goal.returns-clause-steps
returns-clause-steps c =
    let running : is_running c.self.inside.stage ≡ true = ap (λ (r : RunView). is_running r.stage) c.self.view_is ∙ c.requires in
    let view : RunView = record { call = c.self.inside.call; machine = c.self.inside.machine.value; answers = c.self.inside.answers.items; stage = c.self.inside.stage } in
    rw (← c.self.view_is)
    (reached_steps c.walk.result view c.walk.new.self running
    (walk_reaches c.args.stop c.walk.result _ c.walk.new.self (rw c.deref_mut.ensures.value at c.walk.ensures.walks)))

pub returns-clause-between : goal.returns-clause-between
returns-clause-between c =
    let running : is_running c.self.inside.stage ≡ true = ap (λ (r : RunView). is_running r.stage) c.self.view_is ∙ c.requires in
    let view : RunView = record { call = c.self.inside.call; machine = c.self.inside.machine.value; answers = c.self.inside.answers.items; stage = c.self.inside.stage } in
    rw (← c.self.view_is)
    (walk_between c.args.stop c.walk.result view c.walk.new.self running (rw c.deref_mut.ensures.value at c.walk.ensures.walks))
