use Rattle.std.proofs.Common.{Ok, subst}
use Rattle.stm_core.specs.declared.next_step.NextStep.TheVariants.{Run}
use Rattle.stm_core.specs.declared.next_step.ReadResult.{ReadResult}
use Rattle.workers.specs.Work.{IsReadAnswer}
use Rattle.workers.proofs.Steps.{read_leaves, read_refused}
use Rattle.workers.proofs.worker.Worker.read_key.Goals as goal

pub returns-in-Ok-clause-steps : goal.returns-in-Ok-clause-steps
returns-in-Ok-clause-steps g c =
    read_leaves (g.J.JobName.job) (g.J.JobName.work_limit) c.args.key.now c.args.call c.args.incarnation c.args.self.now.share c.read_under_lock.new.self.share (Ok c.in-Ok-Given.field-0) c.in-Ok-Given.ensures

pub returns-in-Ok-Blocked-clause-blocked : goal.returns-in-Ok-Blocked-clause-blocked
returns-in-Ok-Blocked-clause-blocked g c = λ _. (
  c.args.self.now.share,
  c.args.key.now,
  subst (λ (read : ReadResult). IsReadAnswer (g.J.JobName.job) (g.J.JobName.work_limit) c.args.key.now c.args.call c.args.incarnation c.args.self.now.share c.read_under_lock.new.self.share (Ok read)) c.in-Ok-Blocked.field-0-is c.in-Ok-Blocked.ensures,
)

pub returns-in-Ok-Blocked-clause-steps : goal.returns-in-Ok-Blocked-clause-steps
returns-in-Ok-Blocked-clause-steps g c =
    read_leaves (g.J.JobName.job) (g.J.JobName.work_limit) c.args.key.now c.args.call c.args.incarnation c.args.self.now.share c.read_under_lock.new.self.share (Ok c.in-Ok-Blocked.field-0) c.in-Ok-Blocked.ensures

pub returns-in-Err-clause-fault : goal.returns-in-Err-clause-fault
returns-in-Err-clause-fault g c =
    read_refused (g.J.JobName.job) (g.J.JobName.work_limit) c.args.key.now c.args.call c.args.incarnation c.args.self.now.share c.read_under_lock.new.self.share c.in-Err.written c.in-Err.ensures

pub returns-in-Err-answer_stored-clause-fault : goal.returns-in-Err-answer_stored-clause-fault
returns-in-Err-answer_stored-clause-fault g c = c.refuse_memory.ensures (Run c.args.call c.args.incarnation) c.read_under_lock.new.self.share
