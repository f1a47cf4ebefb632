-- Reading the rows of a tree.
use Rattle.std.proofs.Common.{◌≡◌, ◌≢◌, ℕ, List, [], ◌∷◌, Option, Some, None, IfSome, ap, subst, ◌∙◌}
use Rattle.sqlite_value.specs.declared.keys.Order.{Order}
use Rattle.sqlite_value.specs.Order.{Row, column}
use Rattle.sqlite_trees.specs.Tree.{from_key, sought}
use Rattle.sqlite_trees.specs.View.{View, with_cursor}
use Rattle.sqlite_trees.specs.declared.store.Direction.TheVariants.{Forward}
use Rattle.sqlite_exec.specs.Loops.{left_of}
use Rattle.sqlite_exec.proofs.CheckLemmas.{from_no_key, placed}
use Rattle.session_file.specs.Kept.{IsSessionInLimits, rows_if_any, session_row, session_tree}
use Rattle.session_file.specs.Opening.{IsOfOtherVersion, IsOtherVersion}
use Rattle.session_file.specs.Rows.{HasNoSession}
use Rattle.session_file.specs.declared.rows.SessionRow.{SessionRow}

-- after a seek from the start all rows are left
pub all_left : (old new : View) (o : Order) (key : Row) (tree : ℕ) → key ≡ [] → new ≡ with_cursor old 0 (sought o Forward key (old.trees tree)) → left_of new 0 ≡ old.trees tree
all_left old new o key tree none is = ap (λ v. left_of v 0) is ∙ placed old 0 (sought o Forward key (old.trees tree)) ∙ ap (λ k. from_key o k (old.trees tree)) none ∙ from_no_key o (old.trees tree)

neither_row : (rows : List Row) (row : Row) (left : List Row) → rows ≡ row ∷ left → ((s : SessionRow) → IsSessionInLimits s → row ≢ session_row s) → (o : Option SessionRow) → IfSome o IsSessionInLimits → rows ≢ rows_if_any session_row o
neither_row rows row left is none None fits same = cc
neither_row rows row left is none (Some s) fits same =
    let this : row ≡ session_row s = cc in
    none s fits this

-- a first row that is no session's
pub no_session : (v : View) (row : Row) (left : List Row) → v.trees session_tree ≡ row ∷ left → ¬ IsOtherVersion (column row 2) → ((s : SessionRow) → IsSessionInLimits s → row ≢ session_row s) → HasNoSession v
no_session v row left is this none = (λ other. this (subst IsOfOtherVersion is other), neither_row (v.trees session_tree) row left is none)

more_rows : (rows : List Row) (first second : Row) (left : List Row) → rows ≡ first ∷ second ∷ left → (o : Option SessionRow) → IfSome o IsSessionInLimits → rows ≢ rows_if_any session_row o
more_rows rows first second left is None fits same = cc
more_rows rows first second left is (Some s) fits same = cc

-- a second row
pub two_sessions : (v : View) (first second : Row) (left : List Row) → v.trees session_tree ≡ first ∷ second ∷ left → ¬ IsOtherVersion (column first 2) → HasNoSession v
two_sessions v first second left is this = (λ other. this (subst IsOfOtherVersion is other), more_rows (v.trees session_tree) first second left is)
