use Rattle.std.proofs.Common.{◌≡◌, ◌++◌, length, vec_len}
use Rattle.std.specs.Vec.{vec_capacity}
use Rattle.std.specs.Vec.Iter.{into_iter_items, into_iter_len}
use Rattle.workers.specs.Chain.{IsChain}
use Rattle.workers.proofs.executor.Executor.run_chain.Given as goal

abbrev pub invariant-loop-block : goal.invariant-loop-block
invariant-loop-block g l = record {
  yielded : l.yielded ++ into_iter_items l.block-iterator ≡ l.fn.blocks.items;
  rest : into_iter_len l.block-iterator ≡ length (into_iter_items l.block-iterator);
  made : vec_len l.answers ≡ length l.yielded;
  room : vec_capacity l.answers ≡ length l.fn.blocks.items;
  chain : IsChain l.fn.store l.yielded l.answers.items l.left;
}
