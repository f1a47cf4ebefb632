-- What the trees of a store keep of a session.
use Rattle.std.specs.Prelude.{◌≡◌, ◌≤◌, ℕ, pos, Bool, true, false, List, [], ◌∷◌, length, Option, Some, None, IfSome}
use Rattle.std.specs.List.{AllByRecursion}
use Rattle.std.specs.FinMap.{entries}
use Rattle.rv_ledger.specs.Height.{greatest_height}
use Rattle.rv_ledger.specs.Rules.{rules_number}
use Rattle.sqlite_value.specs.declared.value.Value.{Value}
use Rattle.sqlite_value.specs.declared.value.Value.TheVariants.{Blob, Int, Null}
use Rattle.sqlite_value.specs.Order.{Row}
use Rattle.sqlite_trees.specs.Tree.{Trees}
use Rattle.rv_ledger.specs.Key.{Storage}
use Rattle.session_tree.specs.Entries.{ByteMap, rows_of}
use Rattle.session_file.specs.declared.rows.SessionRow.{SessionRow}

-- the storage; the files of the programs by their names; the session's row, or None of a new session; and what the last frame
-- that counts was answered, its line and its bytes, if there is one
pub record Kept : Type 0 where
  pub storage : Storage
  pub programs : ByteMap
  pub session : Option SessionRow
  pub answer : Option (List ℕ × List ℕ)

-- the numbers of the four trees
abbrev pub storage_tree : ℕ
storage_tree = 0

abbrev pub program_tree : ℕ
program_tree = 1

abbrev pub session_tree : ℕ
session_tree = 2

abbrev pub answer_tree : ℕ
answer_tree = 3

-- the version of this format
abbrev pub format_version : ℕ
format_version = 1

abbrev pub flag_number : Bool → ℕ
flag_number false = 0
flag_number true = 1

abbrev pub number_or_null : Option ℕ → Value
number_or_null None = Null
number_or_null (Some n) = Int (pos n)

-- the row of a session: its rowid, which is kept as a NULL, the version, and its fields in order
abbrev pub session_row : SessionRow → Row
session_row s =
    Int (pos 1) ∷ Null ∷ Int (pos format_version) ∷ Int (pos s.frame_limit) ∷ number_or_null s.frame_gas ∷ Int (pos (flag_number s.is_brief))
    ∷ Int (pos (rules_number s.rules)) ∷ Int (pos s.height) ∷ Blob s.digest ∷ []

-- the row of an answer: its rowid, its line and its bytes
abbrev pub answer_row : List ℕ × List ℕ → Row
answer_row a = Int (pos 1) ∷ Null ∷ Blob a.0 ∷ Blob a.1 ∷ []

-- the rows of a table that has one row at most
abbrev pub rows_if_any : {X : Type 0} → (X → Row) → Option X → List Row
rows_if_any row None = []
rows_if_any row (Some x) = row x ∷ []

-- keys have 32 bytes, and values at most 256
abbrev pub AreEntries : Storage → Type 0
AreEntries storage = AllByRecursion (λ e. (length e.0 ≡ 32) × (length e.1 ≤ 256)) (entries storage)

-- names have 32 bytes
abbrev pub AreNamed : ByteMap → Type 0
AreNamed programs = AllByRecursion (λ e. length e.0 ≡ 32) (entries programs)

-- a digest has 32 bytes
pub record IsSessionInLimits (s : SessionRow) : Type 0 where
  pub digest : length s.digest ≡ 32
  pub height : s.height ≤ greatest_height

-- so it is of each part
pub record IsKeptInLimits (k : Kept) : Type 0 where
  pub storage : AreEntries k.storage
  pub programs : AreNamed k.programs
  pub session : IfSome k.session IsSessionInLimits

-- the trees hold this
pub record HoldsIn (db : Trees) (k : Kept) : Type 0 where
  pub storage : db storage_tree ≡ rows_of k.storage
  pub programs : db program_tree ≡ rows_of k.programs
  pub session : db session_tree ≡ rows_if_any session_row k.session
  pub answer : db answer_tree ≡ rows_if_any answer_row k.answer
  pub limits : IsKeptInLimits k
