use Rattle.std.proofs.Common.{◌≡◌, ◌≤◌, filter, take, length}
use Rattle.elf32.specs.Faults.{is_load}
use Rattle.elf32.proofs.table.Table.loads.Given as goal

abbrev pub invariant-loop-header : goal.invariant-loop-header
invariant-loop-header l = (l.loads ≡ filter is_load (take l.header-index l.header-items)) × (length l.loads ≤ l.header-index)
