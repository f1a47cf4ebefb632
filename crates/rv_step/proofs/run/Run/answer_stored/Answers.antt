use Rattle.std.proofs.Common.{◌≡◌, rules}
use Rattle.rv_ledger.specs.Lent.{lent_content}
use Rattle.rv_step.proofs.Beginnings.{answer_keeps, answer_leaves_fewer}
use Rattle.rv_step.proofs.run.Run.answer_stored.Goals as goal

pub invariant_of-self-in-Ok : goal.invariant_of-self-in-Ok
invariant_of-self-in-Ok c =
    let told : lent_content c.of_stored-content.result ≡ c.args.value = search rules in
    rw (c.push_reserved.ensures.items, c.in_ok-make_room.ensures.items)
    (answer_keeps c.self.inside.call c.self.inside.machine.value c.answer.new.self c.self.inside.answers.items c.in-Asked.key _ c.args.origin c.answer.new.stage (rw c.in-Asked.is at c.self.invariant) (rw (c.deref_mut.ensures.value, told) at c.in-Ok.ensures))

pub returns-in-Ok-clause-fewer : goal.returns-in-Ok-clause-fewer
returns-in-Ok-clause-fewer c =
    rw (← c.self.view_is)
    (answer_leaves_fewer c.self.inside.machine.value c.answer.new.self c.self.inside.stage c.in-Asked.key _ c.answer.new.stage c.in-Asked.is (rw c.deref_mut.ensures.value at c.in-Ok.ensures))
