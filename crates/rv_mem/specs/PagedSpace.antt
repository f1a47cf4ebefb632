-- The pages of a call as their clauses see them. Private help of proofs; no public clause cites it.
use Rattle.std.specs.Prelude.{ℕ, List}
use Rattle.rv_mem.specs.Space.{Space}

-- memory, and for each of its pages the place among the pages of the program and the call's own
pub record PagedSpace : Type 0 where
  pub space : Space
  pub places : List ℕ
