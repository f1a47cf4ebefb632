use Rattle.rv_step.proofs.Refused.{change_refused}
use Rattle.rv_step.proofs.faults.refusal.Goals as goal

pub returns-in_default : goal.returns-in_default
returns-in_default c = change_refused c.args.fault c.trap_of.result c.trap_of.ensures c.in_default.not-Memory
