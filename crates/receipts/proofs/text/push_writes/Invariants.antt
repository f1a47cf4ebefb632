use Rattle.std.proofs.Common.{drop}
use Rattle.std.specs.FinMap.{entries}
use Rattle.std.specs.List.{flat_map}
use Rattle.byte_streams.proofs.Writers.{writer_of}
use Rattle.receipts.proofs.Buffers.{IsAppendedBefore}
use Rattle.receipts.specs.Text.{write_line}
use Rattle.receipts.proofs.text.push_writes.Given as goal

abbrev pub invariant-loop-key : goal.invariant-loop-key
invariant-loop-key g l = IsAppendedBefore (writer_of g.W.Write g.W.Destination) l.fn.text l.fn.out l.text l.out (flat_map (write_line l.index) (drop l.key-index (entries l.writes))) (flat_map (write_line l.index) (entries l.writes))
