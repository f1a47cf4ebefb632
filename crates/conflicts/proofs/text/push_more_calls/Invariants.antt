use Rattle.std.proofs.Common.{drop, map}
use Rattle.std.specs.Fmt.{decimal}
use Rattle.byte_streams.proofs.Writers.{writer_of}
use Rattle.receipts.proofs.Buffers.{IsAppendedBefore}
use Rattle.receipts.specs.Text.{more_fields}
use Rattle.conflicts.proofs.text.push_more_calls.Given as goal

abbrev pub invariant-loop-call : goal.invariant-loop-call
invariant-loop-call g l = IsAppendedBefore (writer_of g.W.Write g.W.Destination) l.fn.text l.fn.out l.text l.out (more_fields (map decimal (drop l.call-index l.calls))) (more_fields (map decimal l.fn.calls))
