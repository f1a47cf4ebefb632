use Rattle.workers.proofs.Steps.{is_record_answer}
use Rattle.workers.proofs.worker.Worker.record_under_lock.Goals as goal

pub returns-clause-answer : goal.returns-clause-answer
returns-clause-answer g c =
    let said = c.take_run.ensures in
    let handed = c.requires.ready in
    is_record_answer (g.J.JobName.job) (g.J.JobName.work_limit) c.args.call c.args.incarnation handed.0 c.deref_mut-book.result.now c.take_run.new.self c.args.self.now.share c.take_run.new.share c.take_run.result
    (record { same_job = c.holds.ensures.job; same_limit = c.holds.ensures.limit; reached = c.holds.ensures.reached; fits = c.holds.ensures.fits }) said.made said.next said.dones said.refused (said.cause handed.0 handed.1)
