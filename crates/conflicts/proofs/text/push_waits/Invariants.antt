use Rattle.std.proofs.Common.{drop}
use Rattle.std.specs.List.{flat_map}
use Rattle.byte_streams.proofs.Writers.{writer_of}
use Rattle.receipts.proofs.Buffers.{IsAppendedBefore}
use Rattle.conflicts.specs.Text.{wait_line}
use Rattle.conflicts.proofs.text.push_waits.Given as goal

abbrev pub invariant-loop-wait : goal.invariant-loop-wait
invariant-loop-wait g l = IsAppendedBefore (writer_of g.W.Write g.W.Destination) l.fn.text l.fn.out l.text l.out (flat_map (wait_line l.fn.index) (drop l.wait-index l.waits)) (flat_map (wait_line l.fn.index) l.fn.waits)
