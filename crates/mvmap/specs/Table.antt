-- A map of versions, with the places that it has room for and the records in its arena.
use Rattle.std.specs.FinSet.{FinSet}
use Rattle.version_arena.specs.ArenaState.{ArenaState}
use Rattle.mvmap.specs.Versions.{Versions, place_cmp}

-- the versions; the places for which room was made; the arena, with its records and its room for more
pub record Table : Type 0 where
  pub versions : Versions
  pub places : FinSet place_cmp
  pub arena : ArenaState
