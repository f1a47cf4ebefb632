use Rattle.workers.proofs.Steps.{workers_end}
use Rattle.workers.proofs.worker.Worker.make_steps.Goals as goal

pub returns-in-Err-clause-fault : goal.returns-in-Err-clause-fault
returns-in-Err-clause-fault g c =
    let kept = c.loop.invariant in
    workers_end (g.J.JobName.job) (g.J.JobName.work_limit) c.args.self.now.share c.loop.self.share c.make_step.new.self.share c.loop.next c.in-Err.fault kept.3 kept.2.worker c.in-Err.ensures.steps c.in-Err.ensures.fault
