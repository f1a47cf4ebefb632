use Rattle.std.proofs.Common.{◌≡◌, ◌↔◌}
use Rattle.std.specs.FinMap.{entries}
use Rattle.rv_ledger.proofs.same.same_store.Given as goal

abbrev pub invariant-loop-key : goal.invariant-loop-key
invariant-loop-key l = (entries l.left ≡ entries l.right) ↔ (l.key-iterator ≡ l.rest)
