use Rattle.std.proofs.Common.{◌≡◌, drop, map}
use Rattle.std.specs.List.{list_all}
use Rattle.stm_state.specs.State.{is_idle}
use Rattle.scheduler.specs.Workers.{task_of}
use Rattle.scheduler.proofs.worker.all_idle.Given as goal

abbrev pub invariant-loop-worker : goal.invariant-loop-worker
invariant-loop-worker l = list_all is_idle (map task_of (drop l.worker-index l.workers)) ≡ list_all is_idle (map task_of l.workers)
