use Rattle.std.proofs.Common.{◌≡◌, ◌≤◌, ◌-◌, ◌++◌, drop, length, map, take}
use Rattle.version_arena.specs.Chunks.{empty_chunk}
use Rattle.version_arena.proofs.pool.rewind_all.Given as goal

abbrev pub invariant-loop-i : goal.invariant-loop-i
invariant-loop-i l = record {
  within : l.i ≤ length l.chunks.items;
  state : l.chunks.items ≡ map (λ c. empty_chunk c.size) (take l.i l.fn.chunks.items) ++ drop l.i l.fn.chunks.items;
}

abbrev pub decreases-loop-i : goal.decreases-loop-i
decreases-loop-i l = length l.chunks.items - l.i
