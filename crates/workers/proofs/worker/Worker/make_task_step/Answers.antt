use Rattle.std.proofs.Common.{Ok}
use Rattle.workers.proofs.Steps.{make_leaves, make_refused}
use Rattle.workers.proofs.worker.Worker.make_task_step.Goals as goal

pub returns-in-Ok-clause-steps : goal.returns-in-Ok-clause-steps
returns-in-Ok-clause-steps g c =
    make_leaves (g.J.JobName.job) (g.J.JobName.work_limit) c.args.kind c.args.call c.args.incarnation c.args.self.now.share c.make_under_lock.new.self.share (Ok c.in-Ok.next) c.in-Ok.ensures.answer

pub returns-in-Err-clause-fault : goal.returns-in-Err-clause-fault
returns-in-Err-clause-fault g c =
    make_refused (g.J.JobName.job) (g.J.JobName.work_limit) c.args.kind c.args.call c.args.incarnation c.args.self.now.share c.make_under_lock.new.self.share c.in-Err.written c.in-Err.ensures.answer
