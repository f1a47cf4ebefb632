use Rattle.std.proofs.Common.{◌≡◌, ◌++◌, length}
use Rattle.rv_step.specs.Fold.{receipts_of, store_after}
use Rattle.overlay.specs.Overlay.{with_changes}
use Rattle.engines.proofs.by_threads.ByThreads.run_others.Given as goal

abbrev pub invariant-loop-batch : goal.invariant-loop-batch
invariant-loop-batch g l = record {
  receipts : l.receipts.items ++ receipts_of l.left (with_changes l.base l.over) ≡ receipts_of l.calls (with_changes l.base l.fn.over);
  store : store_after l.left (with_changes l.base l.over) ≡ store_after l.calls (with_changes l.base l.fn.over);
}

abbrev pub decreases-loop-batch : goal.decreases-loop-batch
decreases-loop-batch g l = length l.left
