use Rattle.std.proofs.Common.{refl}
use Rattle.scheduler.specs.Workers.{counts_of, idle_worker, task_of, worker_dones}
use Rattle.scheduler.proofs.Seen.{seen_alike}
use Rattle.scheduler.proofs.scheduler.Scheduler.new.Goals as goal

pub returns : goal.returns
returns c = λ v p.
    rw (c.in_ok-fresh_calls.ensures, c.in_ok-idle_workers.ensures, seen_alike task_of c.args.workers idle_worker, seen_alike counts_of c.args.workers idle_worker, seen_alike worker_dones c.args.workers idle_worker) refl
