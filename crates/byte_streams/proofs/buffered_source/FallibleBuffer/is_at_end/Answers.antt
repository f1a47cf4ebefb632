use Rattle.std.proofs.KnownBytes.{Keeps-refl, Keeps-trans}
use Rattle.byte_streams.proofs.Filled.{ended}
use Rattle.byte_streams.proofs.buffered_source.FallibleBuffer.is_at_end.Goals as goal

pub loop-init : goal.loop-init
loop-init g c = Keeps-refl (g.R.Read.remaining c.args.self.now.reader)

pub returns-in-Ok-clause-end : goal.returns-in-Ok-clause-end
returns-in-Ok-clause-end g c = ended (g.R.Read.remaining c.args.self.now.reader) (g.R.Read.remaining c.loop.self.reader) _ _ c.loop.invariant c.in-Ok.ensures.end c.is_empty.ensures

pub returns-in-Ok-clause-kept : goal.returns-in-Ok-clause-kept
returns-in-Ok-clause-kept g c = Keeps-trans (g.R.Read.remaining c.args.self.now.reader) (g.R.Read.remaining c.loop.self.reader) _ c.loop.invariant c.fill_buf.follows.holds-at-none.0

pub returns-then-ne-clause-kept : goal.returns-then-ne-clause-kept
returns-then-ne-clause-kept g c = Keeps-trans (g.R.Read.remaining c.args.self.now.reader) (g.R.Read.remaining c.loop.self.reader) _ c.loop.invariant c.fill_buf.follows.holds-at-none.0

pub loop-preserved : goal.loop-preserved
loop-preserved g c = Keeps-trans (g.R.Read.remaining c.args.self.now.reader) (g.R.Read.remaining c.loop.self.reader) _ c.loop.invariant c.fill_buf.follows.holds-at-none.0

pub returns-clause-kept : goal.returns-clause-kept
returns-clause-kept g c = c.loop.invariant
