use Rattle.std.proofs.Common.{◌≡◌, take}
use Rattle.std.specs.FinMap as fin
use Rattle.rv_ledger.specs.Applied.{apply_each}
use Rattle.overlay.specs.Overlay.{with_changes}
use Rattle.overlay.proofs.layers.apply_writes.Given as goal

abbrev pub invariant-loop-key : goal.invariant-loop-key
invariant-loop-key l = with_changes l.base l.over ≡ apply_each (with_changes l.base l.fn.over) (take l.key-index (fin.entries l.writes))
