use Rattle.std.proofs.Common.{◌≡◌, take, length}
use Rattle.stm_core.proofs.outcome.counts_in.Given as goal

abbrev pub invariant-loop-worker : goal.invariant-loop-worker
invariant-loop-worker l = record {
  counts : l.counts.items ≡ take l.worker l.scheduler.counts;
  workers : l.workers ≡ length l.scheduler.tasks;
}
