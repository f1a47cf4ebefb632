-- What every call that writes into a store says, whatever it writes.
use Rattle.std.specs.Prelude.{Result, IfErr, OnErr}
use Rattle.sqlite_disk.specs.Disk.{MoreFaults}
use Rattle.sqlite_trees.specs.View.{HasCause, IsClean, IsQuiet, KeepsCommitted, KeepsSchema, Tells}
use Rattle.sqlite_trees.specs.declared.error.StoreError.{StoreError}
use Rattle.sqlite_trees.specs.declared.store.Store.{Ghosts}

-- A call wrote into a store. If it was refused, the last commit is as it was, and the refusal has a cause: the disk failed,
-- memory ran out, or `limit` is met. The shapes are as before, no failure is forgotten, and a crash has no new outcome.
pub record Tries {S A : Type 0} (g : Ghosts S) (limit : Type 0) (old new : S) (result : Result A StoreError) : Type 0 where
  pub err : IsClean (g.view new) → OnErr result (KeepsCommitted (g.view old) (g.view new))
  pub cause : IsClean (g.view new) → IfErr result (HasCause (g.view old) (MoreFaults (g.faults old) (g.faults new)) limit)
  pub told : IfErr result (Tells (g.blamed new))
  pub schema : KeepsSchema (g.view old) (g.view new)
  pub quiet : IsQuiet g.view g.faults g.recovers g.is_shielded old new
