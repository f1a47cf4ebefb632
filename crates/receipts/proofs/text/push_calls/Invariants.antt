use Rattle.std.proofs.Common.{drop}
use Rattle.std.specs.List.{enumerate_from, flat_map}
use Rattle.byte_streams.proofs.Writers.{writer_of}
use Rattle.receipts.proofs.Buffers.{IsAppendedBefore}
use Rattle.receipts.specs.Text.{call_lines}
use Rattle.receipts.proofs.text.push_calls.Given as goal

abbrev pub invariant-loop-index : goal.invariant-loop-index
invariant-loop-index g l = IsAppendedBefore (writer_of g.W.Write g.W.Destination) l.fn.text l.fn.out l.text l.out (flat_map call_lines (enumerate_from l.index (drop l.index l.receipts))) (flat_map call_lines (enumerate_from 0 l.receipts))
