use Rattle.std.proofs.Common.{length}
use Rattle.stm_core.specs.CoreState.{IsWithin}
use Rattle.workers.specs.Work.{IsLeftShare, IsNext}
use Rattle.workers.proofs.worker.Worker.make_steps.Given as goal

abbrev pub invariant-loop : goal.invariant-loop
invariant-loop g l =
    (goal.iterator-loop g).can_next l.iterator' × (goal.iterator-loop g).is_finite l.iterator'
    × IsLeftShare (g.J.JobName.work_limit) l.fn.self.share.dones l.fn.self.share l.self.share
    × IsNext (g.J.JobName.job) (g.J.JobName.work_limit) l.fn.self.share l.self.share l.next × IsWithin (length (g.J.JobName.job).block) l.next
