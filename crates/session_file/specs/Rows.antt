-- Private help of proofs; no public clause cites it. Rows on their way into trees and out of them.
use Rattle.std.specs.Prelude.{◌≡◌, ◌≢◌, ℕ, List, length, Option, Some, None, IfSome, ⊤}
use Rattle.std.specs.List.{AllByRecursion}
use Rattle.std.specs.FinMap.{entries}
use Rattle.std.specs.declared.cmp.Ordering.TheVariants.{Less}
use Rattle.sqlite_trees.specs.View.{View, HasCause}
use Rattle.sqlite_value.specs.Order.{Row}
use Rattle.rv_ledger.specs.Key.{Storage, key_cmp}
use Rattle.session_tree.specs.Entries.{ByteMap, rows_of}
use Rattle.session_file.specs.Kept.{AreEntries, IsSessionInLimits, answer_row, answer_tree, rows_if_any, session_row, session_tree, storage_tree}
use Rattle.session_file.specs.Opening.{IsOfOtherVersion}
use Rattle.session_file.specs.declared.rows.SessionRow.{SessionRow}
use Rattle.session_file.specs.declared.fault.OpenFault.{OpenFault}
use Rattle.session_file.specs.declared.fault.OpenFault.TheVariants.{Damaged, NotASession, OtherVersion, Store}

-- entries with keys of 32 bytes and with values that fit
abbrev pub DoFit : (List ℕ → Type 0) → List (List ℕ × List ℕ) → Type 0
DoFit fits es = AllByRecursion (λ e. (length e.0 ≡ 32) × fits e.1) es

-- All rows of a tree were taken: what took them is made of their entries, whose keys have 32 bytes and whose values fit. After a
-- failure (not `clean`) they may be other rows.
pub record AreTaken (made_of : ByteMap → Type 0) (fits : List ℕ → Type 0) (clean : Type 0) (rows : List Row) : Type 0 where
  pub taken : ByteMap
  pub made : made_of taken
  pub fit : DoFit fits (entries taken)
  pub are_all : clean → rows ≡ rows_of taken

-- a key is above the last one, if there is one
abbrev pub IsAbove : List ℕ → Option (List ℕ) → Type 0
IsAbove key None = ⊤
IsAbove key (Some last) = key_cmp last key ≡ Less

-- why a part was not read, if `disk` says that the disk failed meanwhile, and `none` that the trees have no such part
abbrev pub IsReadFault : (View → Type 0) → View → Type 0 → OpenFault → Type 0
IsReadFault none v disk NotASession = ⊥
IsReadFault none v disk OtherVersion = IsOfOtherVersion (v.trees session_tree)
IsReadFault none v disk Damaged = none v
IsReadFault none v disk (Store error) = HasCause v disk ⊥ error

-- a tree has no map of such entries
abbrev pub HasNoEntries : (List ℕ → Type 0) → ℕ → View → Type 0
HasNoEntries fits tree v = (m : ByteMap) → DoFit fits (entries m) → v.trees tree ≢ rows_of m

-- the first row of a tree has no other version, and the tree has neither the row of a session nor none
abbrev pub HasNoSession : View → Type 0
HasNoSession v = ¬ IsOfOtherVersion (v.trees session_tree) × ((o : Option SessionRow) → IfSome o IsSessionInLimits → v.trees session_tree ≢ rows_if_any session_row o)

-- a tree has neither the row of an answer nor none
abbrev pub HasNoAnswer : View → Type 0
HasNoAnswer v = (o : Option (List ℕ × List ℕ)) → v.trees answer_tree ≢ rows_if_any answer_row o

-- the tree of the storage has no rows of one
abbrev pub HasNoStorage : View → Type 0
HasNoStorage v = (storage : Storage) → AreEntries storage → v.trees storage_tree ≢ rows_of storage
