-- The cell of a block: running (0) or done (1).
use Rattle.std.specs.Prelude.{◌≡◌, ◌≤◌, ℕ, List, slice_index}
use mathlib.Core.Option.{some}
use lib.ListN.{get_elem?}
use Rattle.atomic_table.specs.declared.shared.Seat.{Seat}
use Rattle.crossbeam_utils.specs.declared.atomic.seq_cell.Doing.{Doing}
use Rattle.workers.specs.declared.done_cell.DoneCell.{DoneCell}

-- the cell shows done only if some pass has seen it so
abbrev pub HasSeenDone : List ℕ → List ℕ → Type 0
HasSeenDone words views = slice_index words 0 ≡ 1 → (pass : ℕ) × (get_elem? views pass ≡ some 1)

-- the cell has two states, and shows no less than any pass has seen: there is no way back from done. It is not done before
-- a pass has made it so
abbrev pub IsOneWay : List ℕ → List ℕ → Type 0
IsOneWay words views = (slice_index words 0 ≤ 1) × ((pass seen : ℕ) → get_elem? views pass ≡ some seen → seen ≤ slice_index words 0) × HasSeenDone words views

-- a call with a pass finds no less than the pass had seen; after it the pass has seen what the call left
abbrev pub IsSeen : ℕ → List ℕ → List ℕ → ℕ → Type 0
IsSeen seen before after sees = (seen ≤ slice_index before 0) × (slice_index after 0 ≤ 1) × (sees ≡ slice_index after 0)

-- a pass is one of this cell
abbrev pub IsPassOf : DoneCell → Seat (List ℕ) (Doing (List ℕ) ℕ) → Type 0
IsPassOf cell pass = pass.table_id ≡ cell.cell.table.shared.table_id
