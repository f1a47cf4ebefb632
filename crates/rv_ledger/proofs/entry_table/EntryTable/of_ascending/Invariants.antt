use Rattle.std.proofs.Common.{◌≡◌, take}
use Rattle.rv_ledger.proofs.Numbered.{numbered}
use Rattle.rv_ledger.proofs.entry_table.EntryTable.of_ascending.Given as goal

abbrev pub invariant-loop-position : goal.invariant-loop-position
invariant-loop-position l = l.positions.items ≡ numbered 0 (take l.position l.list.items)
