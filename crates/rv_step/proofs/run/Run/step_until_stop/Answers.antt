use Rattle.std.proofs.Common.{◌≡◌, ◌∙◌, ap, true}
use Rattle.std.specs.Arc.{arc_value}
use Rattle.rv_step.specs.Run.{RunView, is_running}
use Rattle.rv_step.proofs.ProgramSteps.{run_code}
use Rattle.rv_step.proofs.Stops.{stops_after, stops_fewer, stops_keep, stops_left}
use Rattle.rv_step.proofs.run.Run.step_until_stop.Goals as goal

pub run_until_stop-requires-clause-code : goal.run_until_stop-requires-clause-code
run_until_stop-requires-clause-code c =
    let view : RunView = record { call = c.self.inside.call; machine = c.self.inside.machine.value; answers = c.self.inside.answers.items; stage = c.self.inside.stage } in
    rw (c.deref.ensures, c.deref_mut.ensures.value) (run_code (arc_value c.base.result.now) view c.self.invariant (rw c.image.ensures at c.base.ensures))

pub invariant_of-self : goal.invariant_of-self
invariant_of-self c =
    let running : is_running c.self.inside.stage ≡ true = ap (λ (r : RunView). is_running r.stage) c.self.view_is ∙ c.requires in
    stops_keep c.run_until_stop.result c.self.inside.call c.self.inside.machine.value c.run_until_stop.new.machine c.self.inside.answers.items c.self.inside.stage c.run_until_stop.new.stage running (rw c.deref_mut.ensures.value at c.run_until_stop.ensures) c.self.invariant

pub returns-clause-steps : goal.returns-clause-steps
returns-clause-steps c =
    let running : is_running c.self.inside.stage ≡ true = ap (λ (r : RunView). is_running r.stage) c.self.view_is ∙ c.requires in
    rw (← c.self.view_is)
    (stops_after c.run_until_stop.result (record { call = c.self.inside.call; machine = c.self.inside.machine.value; answers = c.self.inside.answers.items; stage = c.self.inside.stage }) c.run_until_stop.new.machine c.run_until_stop.new.stage running (rw c.deref_mut.ensures.value at c.run_until_stop.ensures))

pub returns-clause-fewer : goal.returns-clause-fewer
returns-clause-fewer c =
    let running : is_running c.self.inside.stage ≡ true = ap (λ (r : RunView). is_running r.stage) c.self.view_is ∙ c.requires in
    rw (← c.self.view_is)
    (stops_fewer c.run_until_stop.result c.self.inside.machine.value c.run_until_stop.new.machine c.self.inside.stage c.run_until_stop.new.stage running (rw c.deref_mut.ensures.value at c.run_until_stop.ensures))

pub returns-clause-left : goal.returns-clause-left
returns-clause-left c =
    let running : is_running c.self.inside.stage ≡ true = ap (λ (r : RunView). is_running r.stage) c.self.view_is ∙ c.requires in
    rw (← c.self.view_is)
    (stops_left c.run_until_stop.result c.self.inside.machine.value c.run_until_stop.new.machine c.self.inside.stage c.run_until_stop.new.stage running (rw c.deref_mut.ensures.value at c.run_until_stop.ensures))
