use Rattle.std.proofs.Common.{◌≡◌, ◌++◌, All, length, vec_len}
use Rattle.std.specs.Vec.{vec_capacity}
use Rattle.std.specs.Vec.Iter.{into_iter_items, into_iter_len}
use Rattle.workers.specs.DoneCell.{IsPassOf}
use Rattle.workers.specs.Work.{HasPromised, HoldFrom}
use Rattle.workers.proofs.GivenBack.{IsNew}
use Rattle.workers.proofs.executor.start_threads.Given as goal

abbrev pub invariant-loop-share : goal.invariant-loop-share
invariant-loop-share g l = record {
  yielded : l.yielded ++ into_iter_items l.share-iterator ≡ l.fn.shares.items;
  rest : into_iter_len l.share-iterator ≡ length (into_iter_items l.share-iterator);
  passes : All (λ share. IsPassOf l.fn.shared.cell share.pass) (into_iter_items l.share-iterator);
  new : HoldFrom IsNew (length l.yielded) (into_iter_items l.share-iterator);
  promises : HoldFrom HasPromised 0 l.threads.items;
  made : vec_len l.threads ≡ length l.yielded;
  room : vec_capacity l.threads ≡ length l.fn.shares.items;
}
