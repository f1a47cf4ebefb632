use Rattle.std.proofs.Common.{Ok}
use Rattle.workers.proofs.Steps.{record_leaves, record_refused}
use Rattle.workers.proofs.worker.Worker.hand_in.Goals as goal

pub returns-in-Ok-clause-steps : goal.returns-in-Ok-clause-steps
returns-in-Ok-clause-steps g c =
    record_leaves (g.J.JobName.job) (g.J.JobName.work_limit) c.args.call c.args.incarnation c.args.self.now.share c.record_under_lock.new.self.share (Ok c.in-Ok.next) c.in-Ok.ensures.answer

pub returns-in-Err-clause-fault : goal.returns-in-Err-clause-fault
returns-in-Err-clause-fault g c =
    record_refused (g.J.JobName.job) (g.J.JobName.work_limit) c.args.call c.args.incarnation c.args.self.now.share c.record_under_lock.new.self.share c.in-Err.written c.in-Err.ensures.answer
