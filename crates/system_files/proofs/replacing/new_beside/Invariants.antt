use Rattle.system_files.specs.Entries.{IsBeside, KeepsBut}
use Rattle.system_files.specs.Orders.{Follow, Clears}
use Rattle.system_files.proofs.replacing.new_beside.Given as goal

-- only paths of new files were touched
abbrev pub invariant-loop-number : goal.invariant-loop-number
invariant-loop-number g l = record {
  others : KeepsBut (IsBeside l.path) (g.D.OutputDisk.entries l.fn.disk) (g.D.OutputDisk.entries l.disk);
  asks : Follow Clears (g.D.OutputDisk.asked l.fn.disk) (g.D.OutputDisk.asked l.disk);
}
