-- What an open finds, and why it may be refused.
use Rattle.std.specs.Prelude.{◌≡◌, ◌≢◌, ℕ, pos, false, List, [], ◌∷◌, Result, Err, IfErr, OnOk}
use Rattle.std.specs.Option.{option_map}
use Rattle.sqlite_value.specs.declared.value.Value.{Value}
use Rattle.sqlite_value.specs.declared.value.Value.TheVariants.{Int}
use Rattle.sqlite_value.specs.Order.{Row, column}
use Rattle.sqlite_disk.specs.Disk.{MoreFaults}
use Rattle.sqlite_exec.specs.Calls.{OnlyReads}
use Rattle.sqlite_trees.specs.View.{View, HasCause, IsClean, IsQuiet, Tells}
use Rattle.sqlite_trees.specs.declared.error.StoreError.{StoreError}
use Rattle.sqlite_trees.specs.declared.store.Store.{Ghosts}
use Rattle.session_tree.specs.Entries.{ByteMap}
use Rattle.session_file.specs.Kept.{Kept, HoldsIn, format_version, session_tree}
use Rattle.session_file.specs.Staging.{HasTrees}
use Rattle.session_file.specs.declared.rows.AnswerRow.{AnswerRow}
use Rattle.session_file.specs.declared.rows.Found.{Found}
use Rattle.session_file.specs.declared.fault.OpenFault.{OpenFault}
use Rattle.session_file.specs.declared.fault.OpenFault.TheVariants.{Damaged, NotASession, OtherVersion, Store}

-- an answer's line and its bytes
abbrev pub answer_parts : AnswerRow → List ℕ × List ℕ
answer_parts a = (a.line.items, a.bytes.items)

-- what was found, and the files of the programs by their names, as what is kept
abbrev pub kept_of : {P : Type 0} → ByteMap → Found P → Kept
kept_of files found = record {
  storage = found.storage;
  programs = files;
  session = found.session;
  answer = option_map answer_parts found.answer;
}

-- a store that was just opened
pub record IsFresh (v : View) : Type 0 where
  pub sound : v.is_broken ≡ false
  pub settled : v.trees ≡ v.committed
  pub shaped : v.shape ≡ v.committed_shape
  pub typed : v.reals ≡ v.committed_reals

-- a number that is another version of the format
abbrev pub IsOtherVersion : Value → Type 0
IsOtherVersion (Int version) = version ≢ pos format_version
IsOtherVersion value = ⊥

-- the first row, which is the session's, has another version
abbrev pub IsOfOtherVersion : List Row → Type 0
IsOfOtherVersion [] = ⊥
IsOfOtherVersion (row ∷ more) = IsOtherVersion (column row 2)

-- when a refusal comes, if `disk` says that the disk failed meanwhile: a damaged file has no other version, and its trees hold no
-- session
abbrev pub IsOpenRefused : View → Type 0 → OpenFault → Type 0
IsOpenRefused v disk NotASession = ¬ HasTrees v
IsOpenRefused v disk OtherVersion = IsOfOtherVersion (v.trees session_tree)
IsOpenRefused v disk Damaged = ¬ IsOfOtherVersion (v.trees session_tree) × ((k : Kept) → ¬ HoldsIn v.trees k)
IsOpenRefused v disk (Store error) = HasCause v disk ⊥ error

-- A call read a store, and wrote nothing. If it was refused, `why` says when that comes, of what the store held and of whether the
-- disk failed meanwhile; a failure of the store is reported as its kind. No failure is forgotten, and a crash has no new outcome.
pub record ReadsIn {S A : Type 0} (g : Ghosts S) (why : View → Type 0 → OpenFault → Type 0) (old new : S) (result : Result A OpenFault) : Type 0 where
  pub err : IfErr result (λ fault. IsClean (g.view new) → why (g.view old) (MoreFaults (g.faults old) (g.faults new)) fault)
  pub told : IfErr result (λ fault. (error : StoreError) → fault ≡ Store error → Tells (g.blamed new) error)
  pub same : OnOk result (IsClean (g.view new) → OnlyReads (g.view old) (g.view new))
  pub quiet : IsQuiet g.view g.faults g.recovers g.is_shielded old new

-- the same of a call that was refused
abbrev pub RefusesIn : {S : Type 0} → (P : Type 0) → Ghosts S → (View → Type 0 → OpenFault → Type 0) → S → S → OpenFault → Type 0
RefusesIn P g why old new fault = ReadsIn {A = Found P} g why old new (Err fault)
