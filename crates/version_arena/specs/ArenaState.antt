-- The records of an arena, and the room for more.
use Rattle.std.specs.Prelude.{ℕ, ◌+◌, ◌-◌, List, [], ◌∷◌, ◌++◌, length}
use Rattle.rv_ledger.specs.Change.{ContentChange}
use Rattle.rv_ledger.specs.declared.change.Change.TheVariants as change

-- what one run of a call did to one key
pub record Record : Type 0 where
  pub writer : ℕ
  pub incarnation : ℕ
  pub change : ContentChange

-- the records in the order in which they were placed, and the number of further records and of bytes of further values that
-- there is room for
pub record ArenaState : Type 0 where
  pub records : List Record
  pub room : ℕ
  pub bytes : ℕ

-- the number of bytes that a change takes
abbrev pub change_size : ContentChange → ℕ
change_size (change.Value value) = length value
change_size change.Gone = 0
change_size (change.Sum amount) = 0

-- an arena after one more record, which takes its room
abbrev pub with_record : ℕ → ℕ → ContentChange → ArenaState → ArenaState
with_record writer incarnation written arena =
    record {
      records = arena.records ++ (record { writer = writer; incarnation = incarnation; change = written }) ∷ [];
      room = arena.room - 1;
      bytes = arena.bytes - change_size written;
    }

-- an arena after its records are removed: their room is free again, and the room for bytes stays the same
abbrev pub emptied : ArenaState → ArenaState
emptied arena = record { records = []; room = length arena.records + arena.room; bytes = arena.bytes }
