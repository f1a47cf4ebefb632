use Rattle.std.proofs.Common.{length}
use Rattle.byte_streams.specs.Written.{AtMostAs, IsWrittenBefore}
use Rattle.byte_streams.proofs.write.write_whole.Given as goal

-- some first bytes are written, and what is left follows them; each refusal that is possible now was possible before
abbrev pub invariant-loop-rest : goal.invariant-loop-rest
invariant-loop-rest g l = record {
  written : IsWrittenBefore (g.W.Write.contents l.fn.out) (g.W.Write.contents l.out) l.rest l.bytes;
  same : AtMostAs (g.W.Destination.may_refuse l.out) (g.W.Destination.may_refuse l.fn.out);
}

abbrev pub decreases-loop-rest : goal.decreases-loop-rest
decreases-loop-rest g l = length l.rest
