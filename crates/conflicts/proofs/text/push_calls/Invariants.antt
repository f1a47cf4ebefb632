use Rattle.std.proofs.Common.{drop}
use Rattle.std.specs.List.{enumerate_from, flat_map, zip}
use Rattle.byte_streams.proofs.Writers.{writer_of}
use Rattle.receipts.proofs.Buffers.{IsAppendedBefore}
use Rattle.conflicts.specs.Text.{conflict_lines}
use Rattle.conflicts.proofs.text.push_calls.Given as goal

abbrev pub invariant-loop-index : goal.invariant-loop-index
invariant-loop-index g l = IsAppendedBefore (writer_of g.W.Write g.W.Destination) l.fn.text l.fn.out l.text l.out (flat_map conflict_lines (enumerate_from l.index (zip (drop l.index l.calls) (drop l.index l.paths)))) (flat_map conflict_lines (enumerate_from 0 (zip l.calls l.paths)))
