use Rattle.std.proofs.Common.{◌==◌, arith}
use Rattle.std.proofs.lemmas.List.Splits.{length-slice_split}
use Rattle.block_file.specs.declared.fault.Cause.TheVariants.{BadLine}
use Rattle.block_file.specs.Block.{with_line}
use Rattle.block_file.specs.Line.{cut}
use Rattle.block_file.specs.Reader.{parsed}
use Rattle.block_file.proofs.Lines.{read_on, refused_on}
use Rattle.block_file.proofs.block.body_of.Goals as goal

pub lines-preserved : goal.lines-preserved
lines-preserved c = record {
  says = read_on with_line BadLine c.lines.line (parsed c.lines.reader) (parsed c.read.new.self) (cut 10 c.lines.rest.now) c.in-Some.part.now (cut 10 c.in-Some.behind.now) _
      c.in-Some.ensures.parts (omega (arith, length-slice_split (λ b. b == 10) c.in-Some.behind.now)) c.in_default-read.ensures c.lines.invariant.says;
  count = omega (arith, c.in-Some.ensures.shorter);
}

pub returns-in-Err : goal.returns-in-Err
returns-in-Err c =
    rw (c.fault.ensures)
    (refused_on with_line BadLine c.lines.line (parsed c.lines.reader) c.in-Err.cause (cut 10 c.lines.rest.now) c.in-Some.part.now (cut 10 c.in-Some.behind.now) _
    c.in-Some.ensures.parts (omega (arith, length-slice_split (λ b. b == 10) c.in-Some.behind.now)) c.in-Err.ensures c.lines.invariant.says)
