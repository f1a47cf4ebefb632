use Rattle.std.proofs.Common.{◌≡◌, drop}
use Rattle.rv_step.specs.Fold.{store_after}
use Rattle.engines.proofs.debug.store_after_calls.Given as goal

abbrev pub invariant-loop-call : goal.invariant-loop-call
invariant-loop-call l = store_after (drop l.call-index l.calls) l.left ≡ store_after l.calls l.fn.store
