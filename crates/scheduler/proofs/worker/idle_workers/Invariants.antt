use Rattle.std.proofs.Common.{◌≡◌, ◌≤◌, ◌-◌, length, replicate}
use Rattle.scheduler.specs.Workers.{idle_worker}
use Rattle.scheduler.proofs.worker.idle_workers.Given as goal

abbrev pub invariant-loop-alloc : goal.invariant-loop-alloc
invariant-loop-alloc l = record {
  within : length l.workers.items ≤ l.count;
  idle : l.workers.items ≡ replicate (length l.workers.items) idle_worker;
}

abbrev pub decreases-loop-alloc : goal.decreases-loop-alloc
decreases-loop-alloc l = l.count - length l.workers.items
