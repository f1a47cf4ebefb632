use Rattle.std.proofs.Common.{◌≡◌}
use Rattle.workers.specs.Work.{IsLeftShare}
use Rattle.workers.proofs.worker.Worker.run_to_end.Given as goal

abbrev pub invariant-loop : goal.invariant-loop
invariant-loop g l =
    (goal.iterator-loop g).can_next l.iterator' × (goal.iterator-loop g).is_finite l.iterator'
    × IsLeftShare (g.J.JobName.work_limit) l.fn.self.share.dones l.fn.self.share l.self.share × (l.run.call ≡ l.fn.run.call)
