use Rattle.std.specs.Io.KnownBytes.{Keeps}
use Rattle.byte_streams.proofs.buffered_source.FallibleBuffer.is_at_end.Given as goal

-- no byte was taken
abbrev pub invariant-loop : goal.invariant-loop
invariant-loop g l = Keeps (g.R.Read.remaining l.fn.self.reader) (g.R.Read.remaining l.self.reader)
