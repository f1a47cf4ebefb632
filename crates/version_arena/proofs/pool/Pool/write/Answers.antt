use Rattle.std.proofs.Common.{◌≡◌, ◌+◌, ◌≤◌, sym, ap, subst, ◌∙◌, drop, length, set, arith}
use Rattle.std.proofs.lemmas.List.{length-append, length-set}
use Rattle.version_arena.specs.Chunks.{ChunkState, KeepsBytes, PoolState, capacity_of, spare}
use Rattle.version_arena.proofs.Chunks.{capacity-set, keeps-set, spare-set}
use Rattle.version_arena.proofs.pool.Pool.write.Goals as goal

kept : (c : goal.After-self-3-1) → capacity_of (set c.self.inside.chunks.items c.find-chunk.result c.append.new.self) ≡ capacity_of c.self.inside.chunks.items
kept c = capacity-set c.self.inside.chunks.items c.find-chunk.result c.index_mut.result.now c.append.new.self c.find-chunk.ensures.within c.index_mut.ensures.value
    (ap (λ (x : ChunkState). x.size) c.append.ensures)

left : (c : goal.After-self-3-1) → spare (drop c.find-chunk.result c.self.inside.chunks.items) ≤ spare (drop c.find-chunk.result (set c.self.inside.chunks.items c.find-chunk.result c.append.new.self)) + length c.bytes-bytes.result.now
left c =
    let long = ap (λ (x : ChunkState). length x.bytes) c.append.ensures ∙ length-append c.index_mut.result.now.bytes c.bytes-bytes.result.now in
    spare-set c.self.inside.chunks.items c.find-chunk.result (length c.bytes-bytes.result.now) c.index_mut.result.now c.append.new.self c.find-chunk.ensures.within c.index_mut.ensures.value
    (ap (λ (x : ChunkState). x.size) c.append.ensures) long

pub invariant_of-self : goal.invariant_of-self
invariant_of-self c = (
  c.self.invariant.0 ∙ sym (kept c),
  omega (arith, c.find-chunk.ensures.within, length-set c.self.inside.chunks.items c.find-chunk.result c.append.new.self),
  omega (arith, c.self.invariant.2, c.find-chunk.ensures.room, left c),
)

pub returns-clause-keeps : goal.returns-clause-keeps
returns-clause-keeps c =
    subst (λ (p : PoolState). KeepsBytes p.chunks (set c.self.inside.chunks.items c.find-chunk.result c.append.new.self)) c.self.view_is
    (keeps-set c.self.inside.chunks.items c.find-chunk.result c.index_mut.result.now c.append.new.self c.bytes-bytes.result.now c.find-chunk.ensures.within c.index_mut.ensures.value
    (ap (λ (x : ChunkState). x.bytes) c.append.ensures))
