use Rattle.std.proofs.Common.{◌≡◌, ◌-◌, drop, length}
use Rattle.version_arena.specs.Chunks.{spare}
use Rattle.version_arena.proofs.pool.find.Given as goal

abbrev pub invariant-loop-i : goal.invariant-loop-i
invariant-loop-i l = record {
  room : spare (drop l.i l.chunks.items) ≡ spare (drop l.from l.chunks.items);
}

abbrev pub decreases-loop-i : goal.decreases-loop-i
decreases-loop-i l = length l.chunks.items - l.i
