use Rattle.std.proofs.Common.{◌≡◌, ◌≤◌, ◌+◌, length}
use Rattle.block_file.specs.declared.fault.Cause.TheVariants.{BadLine}
use Rattle.block_file.specs.Line.{cut, read_parts}
use Rattle.block_file.specs.Block.{with_line, lines_from}
use Rattle.block_file.specs.Reader.{parsed}
use Rattle.block_file.proofs.block.body_of.Given as goal

-- what is left to read, after what was seen so far, gives what all lines give
abbrev pub invariant-lines : goal.invariant-lines
invariant-lines l = record {
  says : read_parts with_line BadLine l.line (parsed l.reader) (cut 10 l.rest) ≡ lines_from l.first l.fn.rules (cut 10 l.text);
  count : l.line + length l.rest ≤ l.first + length l.text;
}

abbrev pub decreases-lines : goal.decreases-lines
decreases-lines l = length l.rest
