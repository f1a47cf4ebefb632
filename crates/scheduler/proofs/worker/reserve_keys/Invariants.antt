use Rattle.std.proofs.Common.{◌≡◌, ◌≤◌, ◌<◌, ℕ, get_or, map}
use Rattle.scheduler.specs.Workers.{but_key_room, idle_worker}
use Rattle.scheduler.proofs.worker.reserve_keys.Given as goal

abbrev pub invariant-loop-index : goal.invariant-loop-index
invariant-loop-index l = record {
  room : (w : ℕ) → w < l.index → l.count ≤ (get_or l.workers.items w idle_worker).key_room;
  grown : (w : ℕ) → (get_or l.fn.workers.items w idle_worker).key_room ≤ (get_or l.workers.items w idle_worker).key_room;
  same : map but_key_room l.workers.items ≡ map but_key_room l.fn.workers.items;
}
