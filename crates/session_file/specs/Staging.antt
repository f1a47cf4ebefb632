-- What the last commit of a file holds, and what its open transaction holds.
use Rattle.std.specs.Prelude.{◌≡◌, ◌≤◌, ◌⊎◌, false, IsTrue, Result, IfErr, OnErr, OnOk}
use Rattle.sqlite_value.specs.Keys.{plain}
use Rattle.sqlite_disk.specs.Disk.{MoreFaults}
use Rattle.sqlite_trees.specs.View.{View, HasCause, IsClean, IsQuiet, Tells, doubt}
use Rattle.sqlite_trees.specs.declared.error.StoreError.{StoreError}
use Rattle.sqlite_trees.specs.declared.store.Store.{Ghosts}
use Rattle.sqlite_trees.specs.declared.store.Shape.TheVariants.{Index, Table}
use Rattle.session_file.specs.Kept.{Kept, HoldsIn, answer_tree, program_tree, session_tree, storage_tree}

-- the four trees have their shapes, and the two tables no column of real numbers
pub record HasTrees (v : View) : Type 0 where
  pub storage : v.shape storage_tree ≡ Index plain
  pub programs : v.shape program_tree ≡ Index plain
  pub session : v.shape session_tree ≡ Table
  pub answer : v.shape answer_tree ≡ Table
  pub session_reals : v.reals session_tree ≡ 0
  pub answer_reals : v.reals answer_tree ≡ 0

-- they have, and had them at the last commit
pub record IsShaped (v : View) : Type 0 where
  pub trees : HasTrees v
  pub committed : v.committed_shape ≡ v.shape
  pub committed_reals : v.committed_reals ≡ v.reals

-- the last commit holds the one, and the open transaction the other
pub record HoldsKept (v : View) (kept next : Kept) : Type 0 where
  pub sound : v.is_broken ≡ false
  pub committed : HoldsIn v.committed kept
  pub written : HoldsIn v.trees next

-- so it is while the file is open
abbrev pub IsStaged : View → Kept → Kept → Type 0
IsStaged v kept next = IsTrue v.is_open → HoldsKept v kept next

-- while the file is open, the last commit holds this, and nothing was changed since
abbrev pub IsKeeping : View → Kept → Type 0
IsKeeping v kept = IsStaged v kept kept

-- what the transaction will hold is changed, if `known` held of it
abbrev pub StagesWhere : (Kept → Type 0) → (Kept → Kept) → View → View → Type 0
StagesWhere known change old new = (kept next : Kept) → known next → IsStaged old kept next → IsStaged new kept (change next)

-- the same, whatever it held
abbrev pub StagesKept : (Kept → Kept) → View → View → Type 0
StagesKept change old new = (kept next : Kept) → IsStaged old kept next → IsStaged new kept (change next)

-- the transaction is given up, and nothing is staged
abbrev pub GivesUp : View → View → Type 0
GivesUp old new = (kept next : Kept) → IsStaged old kept next → IsKeeping new kept

-- what was staged is kept
abbrev pub CommitsStaged : View → View → Type 0
CommitsStaged old new = (kept next : Kept) → IsStaged old kept next → IsKeeping new next

-- A part was staged. Or it was refused: `spares` says what that leaves, and the refusal has a cause: the disk failed, memory ran
-- out, or `limit` is met. A failure is reported as its kind, none is forgotten, and a crash has no new outcome.
pub record StagesIn {S A : Type 0} (g : Ghosts S) (stages spares : View → View → Type 0) (limit : Type 0) (old new : S) (result : Result A StoreError) : Type 0 where
  pub ok : OnOk result (stages (g.view old) (g.view new))
  pub still : OnOk result (IsClean (g.view new) → (g.view new).is_broken ≡ (g.view old).is_broken)
  pub err : OnErr result (spares (g.view old) (g.view new))
  pub cause : IsClean (g.view new) → IfErr result (HasCause (g.view old) (MoreFaults (g.faults old) (g.faults new)) limit)
  pub told : IfErr result (Tells (g.blamed new))
  pub quiet : IsQuiet g.view g.faults g.recovers g.is_shielded old new

-- A call that commits was refused for a cause: the disk failed, memory ran out, or `limit` is met. A failure is reported as its kind.
pub record FailsFor {S A : Type 0} (g : Ghosts S) (limit : Type 0) (old new : S) (result : Result A StoreError) : Type 0 where
  pub cause : IsClean (g.view new) → IfErr result (HasCause (g.view old) (MoreFaults (g.faults old) (g.faults new)) limit)
  pub told : IfErr result (Tells (g.blamed new))

-- no failure is forgotten, and only a failure of the disk shuts the store
pub record Lasts {S : Type 0} (g : Ghosts S) (old new : S) : Type 0 where
  pub clean : doubt (g.view old).is_clean ≤ doubt (g.view new).is_clean
  pub counts : g.faults old ≤ g.faults new
  pub closes : IsClean (g.view new) → IsTrue (g.view old).is_open → IsTrue (g.view new).is_open ⊎ MoreFaults (g.faults old) (g.faults new)
