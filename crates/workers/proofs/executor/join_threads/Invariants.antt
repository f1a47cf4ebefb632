use Rattle.std.proofs.Common.{◌≡◌, ◌≤◌, ◌++◌, None, length, vec_len}
use Rattle.std.specs.Vec.{vec_capacity}
use Rattle.std.specs.Vec.Iter.{into_iter_items, into_iter_len}
use Rattle.workers.specs.Work.{AreGivenBy}
use Rattle.workers.proofs.executor.join_threads.Given as goal

abbrev pub invariant-loop-thread : goal.invariant-loop-thread
invariant-loop-thread g l = record {
  yielded : l.yielded ++ into_iter_items l.thread-iterator ≡ l.fn.threads.items;
  rest : into_iter_len l.thread-iterator ≡ length (into_iter_items l.thread-iterator);
  within : vec_len l.back ≤ length l.yielded;
  given : l.refused ≡ None → AreGivenBy (g.J.JobName.work_limit) l.yielded l.back.items;
  room : length l.fn.threads.items ≤ vec_capacity l.back;
}
