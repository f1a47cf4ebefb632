use Rattle.std.proofs.Common.{sym, subst, Option}
use Rattle.stm_core.specs.declared.next_step.NextStep.{NextStep}
use Rattle.workers.specs.Work.{IsLeftShare, dones_by}
use Rattle.workers.proofs.Steps.{ask_refused, asking_leaves}
use Rattle.workers.proofs.worker.Worker.ask_for_work.Goals as goal

pub returns-in-Ok-clause-steps : goal.returns-in-Ok-clause-steps
returns-in-Ok-clause-steps g c =
    let share = c.args.self.now.share in
    let left = c.heed.new.self.share in
    subst (λ (next : Option NextStep). IsLeftShare (g.J.JobName.work_limit) (dones_by share.dones next) share left) (sym c.owed.ensures)
    (asking_leaves (g.J.JobName.job) (g.J.JobName.work_limit) share c.back_off.new.self.share c.ask_under_lock.new.self.share left c.in-Ok.asked c.back_off.ensures c.in-Ok.ensures.answer c.heed.ensures.looks)

pub returns-in-Err-clause-fault : goal.returns-in-Err-clause-fault
returns-in-Err-clause-fault g c = ask_refused (g.J.JobName.job) (g.J.JobName.work_limit) c.back_off.new.self.share c.ask_under_lock.new.self.share c.in-Err.written c.in-Err.ensures.answer
