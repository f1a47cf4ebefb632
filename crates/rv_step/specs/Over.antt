-- Private help of proofs; no public clause cites it. The run of a call over a storage.
use Rattle.std.specs.Prelude.{◌≡◌, ℕ, Bool, true, false}
use Rattle.rv_ledger.specs.Call.{Invocation}
use Rattle.rv_ledger.specs.Key.{Storage}
use Rattle.rv_step.specs.declared.machine.Machine.{Machine}
use Rattle.rv_step.specs.declared.stage.Stage.{Stage}
use Rattle.rv_step.specs.declared.stage.Stage.TheVariants.{Ended}
use Rattle.rv_step.specs.Moment.{moment_over}
use Rattle.rv_step.specs.Run.{IsStage, progress_of}

-- the machine and the stage are those of a moment of the call over the storage
pub record IsBeginningOver (call : Invocation) (store : Storage) (s : Machine) (stage : Stage) : Type 0 where
  pub stands : IsStage call.gas s stage
  pub moment : (n : ℕ) × (moment_over call store n ≡ progress_of s stage)

abbrev pub is_ended : Stage → Bool
is_ended (Ended end out) = true
is_ended _ = false
