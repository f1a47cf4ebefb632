-- Private help of proofs: no public clause cites it. The moment of the run inside a replay.
use Rattle.std.specs.Prelude.{◌≡◌, ℕ, ◌<◌, ◌^◌, Bool, true, false}
use Rattle.std.specs.FinMap as map
use Rattle.rv_ledger.specs.Key.{Storage}
use Rattle.rv_ledger.specs.Call.{Invocation}
use Rattle.rv_step.specs.declared.machine.Machine.{Machine}
use Rattle.rv_step.specs.declared.stage.Stage.{Stage}
use Rattle.rv_step.specs.declared.stage.Stage.TheVariants.{Running, Asked, Ended}
use Rattle.rv_step.specs.Over.{is_ended}
use Rattle.rv_step.specs.Run.{RunView}
use Rattle.rv_step.specs.Step.{Progress, Going, Over, Asks, answered, delivered, step}
use Rattle.rv_step.specs.Moment.{advance, from_storage, is_over, moment_over}

-- a machine and a stage fit the progress of a call; a run that asked for a key has not continued yet
abbrev pub AreOf : Progress → Machine → Stage → Type 0
AreOf progress s Running = progress ≡ Going s
AreOf progress s (Asked key) = (progress ≡ Going s) × (step s ≡ Asks key)
AreOf progress s (Ended end out) = progress ≡ Over end out s

-- a run is at this progress of a call
abbrev pub IsRunAt : Progress → RunView → Type 0
IsRunAt progress run = AreOf progress run.machine run.stage

-- the progress of a call after one more step over a storage
abbrev pub advance_over : Storage → Progress → Progress
advance_over store progress = (advance from_storage (progress, store)).0

-- the call is not over at any moment before this one
abbrev pub GoesOnUntil : Invocation → Storage → ℕ → Type 0
GoesOnUntil call store moment = (n : ℕ) → n < moment → is_over (moment_over call store n) ≡ false

-- the run inside a replay is at its moment, and the call is not over at any moment before it
pub record IsReplay (call : Invocation) (store : Storage) (run : RunView) (moment : ℕ) : Type 0 where
  pub gas : call.gas < 2 ^ 32
  pub stands : IsRunAt (moment_over call store moment) run
  pub earlier : GoesOnUntil call store moment

-- the run is at the last moment of the call
pub record HasEnded (call : Invocation) (store : Storage) (run : RunView) (moment : ℕ) : Type 0 where
  pub stands : IsRunAt (moment_over call store moment) run
  pub ended : is_ended run.stage ≡ true
  pub earlier : GoesOnUntil call store moment

-- a run that asked for a key was answered from a storage; a run that did not ask stays as it was
abbrev pub IsAnsweredAt : Storage → Stage → RunView → RunView → Type 0
IsAnsweredAt store (Asked key) old new = IsRunAt (answered old.machine (delivered old.machine key (map.get store key))) new
IsAnsweredAt store stage old new = new ≡ old

abbrev pub IsAnswered : Storage → RunView → RunView → Type 0
IsAnswered store old new = IsAnsweredAt store old.stage old new
