use Rattle.std.proofs.Common.{◌≡◌, ◌+◌, [], drop}
use Rattle.block_file.specs.declared.fault.Cause.TheVariants.{BadNumber}
use Rattle.block_file.specs.Line.{read_parts}
use Rattle.block_file.specs.Schedule.{with_entry}
use Rattle.block_file.proofs.Lines.{texts}
use Rattle.block_file.proofs.schedule.entries_of.Given as goal

-- what is left to read, after the entries so far, gives what all parts give
abbrev pub invariant-loop-index : goal.invariant-loop-index
invariant-loop-index l = read_parts with_entry BadNumber (l.index + 1) l.entries.items (drop l.index (texts l.parts)) ≡ read_parts with_entry BadNumber 1 [] (texts l.parts)
