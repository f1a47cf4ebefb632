-- A finite map of byte strings as the rows of an index tree.
use Rattle.std.specs.Prelude.{◌≡◌, ◌≢◌, ◌<◌, ◌+◌, ◌^◌, ℕ, List, [], ◌∷◌, length, map, Option, Some, None}
use Rattle.std.specs.Ordering.{nat_cmp}
use Rattle.std.specs.Cmp.Lexicographic.{slice_cmp}
use Rattle.std.specs.FinMap as fin
use Rattle.sqlite_value.specs.declared.value.Value.TheVariants.{Blob}
use Rattle.sqlite_value.specs.Order.{Row}
use Rattle.sqlite_value.specs.Keys.{plain}
use Rattle.sqlite_trees.specs.Tree.{insert_entry, remove_entry}
use Rattle.sqlite_trees.specs.View.{View, OnlyWrites}

-- keys in the order of their bytes, each with a value
abbrev pub ByteMap : Type 0
ByteMap = fin.FinMap (slice_cmp nat_cmp) (List ℕ)

-- an entry as a row: its key and its value
abbrev pub entry_row : List ℕ × List ℕ → Row
entry_row e = Blob e.0 ∷ Blob e.1 ∷ []

-- the rows of a map, by ascending key
abbrev pub rows_of : ByteMap → List Row
rows_of m = map entry_row (fin.entries m)

-- the rows without the old entry of a key, if it had one
abbrev pub without_old : List ℕ → Option (List ℕ) → List Row → List Row
without_old key None rows = rows
without_old key (Some value) rows = remove_entry plain (entry_row (key, value)) rows

-- the rows with the new entry of a key, if it gets one
abbrev pub with_new : List ℕ → Option (List ℕ) → List Row → List Row
with_new key None rows = rows
with_new key (Some value) rows = insert_entry plain (entry_row (key, value)) rows

-- the rows with another content of a key
abbrev pub changed_rows : List ℕ → Option (List ℕ) → Option (List ℕ) → List Row → List Row
changed_rows key old new rows = with_new key new (without_old key old rows)

-- the transaction edits one tree; the cursors may change
pub record EditsTree (old new : View) (tree : ℕ) (edit : List Row → List Row) : Type 0 where
  pub this : new.trees tree ≡ edit (old.trees tree)
  pub others : (t : ℕ) → t ≢ tree → new.trees t ≡ old.trees t
  pub rest : OnlyWrites old new

-- the new entry of a key has over a billion bytes, its key and its value each taken with 18 more: no database takes it
abbrev pub IsTooLong : List ℕ → Option (List ℕ) → Type 0
IsTooLong key None = ⊥
IsTooLong key (Some value) = 10 ^ 9 < 36 + length key + length value
