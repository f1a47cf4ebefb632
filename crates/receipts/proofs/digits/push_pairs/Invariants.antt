use Rattle.std.proofs.Common.{length}
use Rattle.byte_streams.proofs.Writers.{writer_of}
use Rattle.hex.specs.Hex.{encode_lower}
use Rattle.receipts.proofs.Buffers.{IsAppendedBefore}
use Rattle.receipts.proofs.digits.push_pairs.Given as goal

abbrev pub invariant-loop-rest : goal.invariant-loop-rest
invariant-loop-rest g l = IsAppendedBefore (writer_of g.W.Write g.W.Destination) l.fn.text l.fn.out l.text l.out (encode_lower l.rest) (encode_lower l.bytes)

abbrev pub decreases-loop-rest : goal.decreases-loop-rest
decreases-loop-rest g l = length l.rest
