use Rattle.std.proofs.Common.{ap, arith}
use Rattle.version_arena.specs.Chunks.{PoolState, spare}
use Rattle.version_arena.proofs.Chunks.{spare-rewound, spare-within}
use Rattle.version_arena.proofs.pool.Pool.rewind.Goals as goal

pub invariant_of-self : goal.invariant_of-self
invariant_of-self c =
    let old = c.self.inside.chunks.items in
    (omega (arith, c.self.invariant.0, c.rewind_all.ensures.capacity), omega arith, omega (arith, c.self.invariant.0, ap spare c.rewind_all.ensures.items, spare-rewound old))

pub returns-clause-room : goal.returns-clause-room
returns-clause-room c =
    omega (arith, c.self.invariant.0, c.self.invariant.2, spare-within c.self.inside.chunks.items c.self.inside.current, ap (λ (p : PoolState). p.room) c.self.view_is)
