use Rattle.std.proofs.Common.{◌≡◌, ◌++◌, ◌∷◌, [], length, drop, ap, ◌∙◌, arith}
use Rattle.std.proofs.lemmas.List.{length-append}
use Rattle.version_arena.specs.Chunks.{capacity_of, empty_chunk, spare}
use Rattle.version_arena.proofs.Chunks.{capacity-append, spare-more, spare-within}
use Rattle.version_arena.proofs.pool.Pool.reserve.Goals as goal

pub overflow_add-self : goal.overflow_add-self
overflow_add-self c =
    omega (arith, c.self.invariant.0, c.self.invariant.2, spare-within c.self.inside.chunks.items c.self.inside.current, c.in-Some.ensures)

-- the chunks after one is added
chunks : (c : goal.After-self-2-1) → c.push_reserved.new.self.items ≡ c.self.inside.chunks.items ++ empty_chunk c.max-size.result ∷ []
chunks c = c.push_reserved.ensures.items ∙ ap (λ cs. cs ++ c.in_ok-chunk.chunk ∷ []) c.reserve.ensures.items ∙ ap (λ x. c.self.inside.chunks.items ++ x ∷ []) c.in_ok-chunk.ensures

pub invariant_of-self-2 : goal.invariant_of-self-2
invariant_of-self-2 c =
    let old = c.self.inside.chunks.items in let current = c.self.inside.current in let size = c.max-size.result in (
      omega (arith, ap capacity_of (chunks c), capacity-append old (empty_chunk size ∷ []), c.self.invariant.0, c.in-Some.ensures),
      omega (arith, c.self.invariant.1, ap length (chunks c), length-append old (empty_chunk size ∷ [])),
      omega (arith, c.self.invariant.2, ap (λ cs. spare (drop current cs)) (chunks c), spare-more old current size c.self.invariant.1),
    )
