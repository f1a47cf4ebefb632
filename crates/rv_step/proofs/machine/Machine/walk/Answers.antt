use Rattle.rv_step.proofs.Walks.{none_walked}
use Rattle.rv_step.proofs.machine.Machine.walk.Goals as goal

pub returns-then-pc-ne0-clause-walks : goal.returns-then-pc-ne0-clause-walks
returns-then-pc-ne0-clause-walks c = none_walked c.args.stop c.args.self.now

pub returns-in-None-clause-walks : goal.returns-in-None-clause-walks
returns-in-None-clause-walks c = none_walked c.args.stop c.args.self.now
