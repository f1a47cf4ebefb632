use Rattle.std.proofs.Common.{◌≡◌}
use Rattle.std.specs.Prelude.{map}
use Rattle.std.specs.List.{range_with_len}
use Rattle.elf32.specs.Header.{header_at}
use Rattle.elf32.proofs.table.program_headers.Given as goal

abbrev pub invariant-loop-n : goal.invariant-loop-n
invariant-loop-n l = l.table ≡ map (header_at l.bytes) (range_with_len 0 l.n)
