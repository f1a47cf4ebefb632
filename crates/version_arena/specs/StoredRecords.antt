-- The records as an arena keeps them.
use Rattle.std.specs.Prelude.{◌≤◌, List}
use Rattle.rv_ledger.specs.Change.{IfValue, change_map}
use Rattle.version_arena.specs.ArenaState.{Record}
use Rattle.version_arena.specs.Chunks.{ChunkState, LiesWithin, part}
use Rattle.version_arena.specs.declared.pool.Span.{Span}
use Rattle.version_arena.specs.declared.stored_record.StoredRecord.{StoredRecord}

-- the record that a stored record stands for
abbrev pub record_of : List ChunkState → StoredRecord → Record
record_of cs s = record { writer = s.writer; incarnation = s.incarnation; change = change_map (part cs) s.change }

-- a span within the chunks, of at most 256 bytes
abbrev pub IsShortSpan : List ChunkState → Span → Type 0
IsShortSpan cs span = LiesWithin cs span × (span.len ≤ 256)

-- its value has such a span, if it has a value
abbrev pub IsStored : List ChunkState → StoredRecord → Type 0
IsStored cs s = IfValue s.change (IsShortSpan cs)
