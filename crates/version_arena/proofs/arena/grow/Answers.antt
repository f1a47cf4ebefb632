use Rattle.std.proofs.Common.{arith}
use Rattle.version_arena.proofs.arena.grow.Goals as goal

pub returns-clause-ok : goal.returns-clause-ok
returns-clause-ok c = omega (arith, c.loop-stored.invariant.grows, c.loop-stored.invariant.limit, c.loop-stored-test.false, c.len-in-loop-stored.ensures)
