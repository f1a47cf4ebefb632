use Rattle.std.proofs.Common.{drop}
use Rattle.std.specs.List.{flat_map}
use Rattle.byte_streams.proofs.Writers.{writer_of}
use Rattle.receipts.proofs.Buffers.{IsAppendedBefore}
use Rattle.conflicts.specs.Text.{writers_line}
use Rattle.conflicts.proofs.text.push_all_writers.Given as goal

abbrev pub invariant-loop-key : goal.invariant-loop-key
invariant-loop-key g l = IsAppendedBefore (writer_of g.W.Write g.W.Destination) l.fn.text l.fn.out l.text l.out (flat_map writers_line (drop l.key-index l.keys)) (flat_map writers_line l.fn.keys)
