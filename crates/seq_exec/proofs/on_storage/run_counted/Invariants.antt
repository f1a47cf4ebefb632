use Rattle.std.proofs.Common.{◌≡◌, ◌++◌, drop}
use Rattle.rv_step.specs.Fold.{receipts_of, store_after}
use Rattle.overlay.specs.Overlay.{with_changes}
use Rattle.seq_exec.proofs.on_storage.run_counted.Given as goal

abbrev pub invariant-loop-call : goal.invariant-loop-call
invariant-loop-call l = record {
  receipts : l.receipts.items ++ receipts_of (drop l.call-index l.calls) (with_changes l.base l.over) ≡ receipts_of l.calls (with_changes l.base l.fn.over);
  store : store_after (drop l.call-index l.calls) (with_changes l.base l.over) ≡ store_after l.calls (with_changes l.base l.fn.over);
}
