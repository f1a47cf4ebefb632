use Rattle.workers.proofs.Steps.{is_ask_answer}
use Rattle.workers.proofs.worker.Worker.ask_under_lock.Goals as goal

pub returns-clause-answer : goal.returns-clause-answer
returns-clause-answer g c =
    let said = c.ask.ensures in
    is_ask_answer (g.J.JobName.job) (g.J.JobName.work_limit) c.deref_mut-book.result.now c.ask.new.self c.args.self.now.share c.ask.new.share c.ask.result
    (record { same_job = c.holds.ensures.job; same_limit = c.holds.ensures.limit; reached = c.holds.ensures.reached; fits = c.holds.ensures.fits }) said.made said.asked said.refused said.cause
