-- Keys, and finite maps from them.
use Rattle.std.specs.Prelude.{ℕ, List, Bool, ◌||◌, nat_lt}
use Rattle.std.specs.declared.cmp.Ordering.{Ordering}
use Rattle.std.specs.Ordering.{nat_cmp}
use Rattle.std.specs.Cmp.Lexicographic.{slice_cmp}
use Rattle.std.specs.FinMap.{FinMap, contains_key, len}
use Rattle.rv_ledger.specs.Change.{ContentChange}

-- keys are ordered byte by byte, from the first byte on
abbrev pub key_cmp : List ℕ → List ℕ → Ordering
key_cmp = slice_cmp nat_cmp

-- a storage: a finite map from keys to values
abbrev pub Storage : Type 0
Storage = FinMap key_cmp (List ℕ)

-- what a call has written: the change of each key
abbrev pub WriteMap : Type 0
WriteMap = FinMap key_cmp ContentChange

-- whether a key may be written: it was written already, or fewer than 256 other keys were
abbrev pub has_room : WriteMap → List ℕ → Bool
has_room writes key = contains_key writes key || nat_lt (len writes) 256
