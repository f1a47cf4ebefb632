use Rattle.std.proofs.Common.{◌≡◌, take}
use Rattle.std.specs.FinMap as fin
use Rattle.rv_ledger.specs.Applied.{apply_each}
use Rattle.rv_ledger.proofs.applying.apply_writes.Given as goal

abbrev pub invariant-loop-key : goal.invariant-loop-key
invariant-loop-key l = l.store ≡ apply_each l.fn.store (take l.key-index (fin.entries l.writes))
