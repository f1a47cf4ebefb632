use Rattle.std.proofs.Common.{◌≡◌, ◌++◌, drop}
use Rattle.rv_step.specs.Fold.{receipts_of, store_after}
use Rattle.seq_exec.proofs.run_all.Given as goal

abbrev pub invariant-loop-call : goal.invariant-loop-call
invariant-loop-call l = record {
  receipts : l.receipts.items ++ receipts_of (drop l.call-index l.calls) l.store ≡ receipts_of l.calls l.fn.store;
  store : store_after (drop l.call-index l.calls) l.store ≡ store_after l.calls l.fn.store;
}
