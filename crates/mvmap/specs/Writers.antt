-- The slots at one key; only private functions use this.
use Rattle.std.specs.Prelude.{◌==◌, ℕ, List, [], ◌∷◌, Option, None, Some, if◌then◌else◌, slice_index_or}
use Rattle.std.specs.List.Sorted.{IsStrictlySortedBy}
use Rattle.std.specs.Map.{keys_of}
use Rattle.std.specs.Ordering.{nat_cmp}
use Rattle.rv_ledger.specs.Entries.{IsGapBy}
use Rattle.mvmap.specs.declared.slot.Slot.{Slot}
use Rattle.mvmap.specs.declared.slot.Slot.TheVariants as slot

-- the slots at a key, each after its writer
abbrev pub ByWriter : Type 0
ByWriter = List (ℕ × Slot)

-- the slot of a writer
abbrev pub slot_of : ByWriter → ℕ → Option Slot
slot_of [] writer = None
slot_of ((w, s) ∷ rest) writer = if w == writer then Some s else slot_of rest writer

-- the writer at place i
abbrev pub writer_at : ByWriter → ℕ → ℕ
writer_at ws i = let e = slice_index_or ws i (0, slot.Vacant) in e.0

-- the writers rise, so none comes twice
abbrev pub AreWritersAscending : ByWriter → Type 0
AreWritersAscending ws = IsStrictlySortedBy nat_cmp (keys_of ws)

-- the writer's slot would go at place i
abbrev pub IsWriterGap : ByWriter → ℕ → ℕ → Type 0
IsWriterGap ws writer i = IsGapBy nat_cmp ws writer i
