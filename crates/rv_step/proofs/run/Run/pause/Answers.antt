use Rattle.rv_step.proofs.Askings.{asked_asks, ended_asks}
use Rattle.rv_step.proofs.run.Run.pause.Goals as goal

pub returns-in-Asked-clause-asks : goal.returns-in-Asked-clause-asks
returns-in-Asked-clause-asks c =
    rw (← c.self.view_is) (asked_asks c.self.inside.call c.self.inside.machine.value c.self.inside.answers.items c.in-Asked.key (rw c.in-Asked.is at c.self.invariant))

pub returns-in-Ended-clause-asks : goal.returns-in-Ended-clause-asks
returns-in-Ended-clause-asks c =
    rw (← c.self.view_is) (ended_asks c.self.inside.call c.self.inside.machine.value c.self.inside.answers.items c.in-Ended.field-0 c.in-Ended.field-1 (rw c.in-Ended.is at c.self.invariant))
