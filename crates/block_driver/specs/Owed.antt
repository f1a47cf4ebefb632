-- What a worker owes after its steps, and why a step is refused.
use Rattle.std.specs.Prelude.{⊤, ◌≡◌, ◌<◌, ◌≤◌, ◌⊎◌, ℕ, true, false, List, Option, None, Some, Result, Ok, Err, length, get_or}
use Rattle.rv_step.specs.declared.ended_run.EndedRun.{EndedRun}
use Rattle.stm_state.specs.declared.state.Task.TheVariants.{Idle}
use Rattle.stm_state.specs.State.{is_done, no_counts, task_at}
use Rattle.stm_state.specs.Steps.{Step, ReadKey, Record}
use Rattle.stm_state.specs.Steps as steps
use Rattle.scheduler.specs.Schedule.{count_limit}
use Rattle.stm_core.specs.CoreState.{CoreState, HasReadRoom, IsDue, IsOwn, IsReadyOf, IsRefused, IsTaken, Makes, is_due, next_step_of, step_of}
use Rattle.stm_core.specs.declared.next_step.NextStep.TheVariants as next_step
use Rattle.stm_core.specs.declared.next_step.ReadResult.{ReadResult}
use Rattle.stm_core.specs.declared.next_step.StepKind.{StepKind}
use Rattle.stm_core.specs.declared.fault.RecordFault.{RecordFault}
use Rattle.stm_core.specs.declared.fault.RecordFault.TheVariants as record_fault
use Rattle.block_driver.specs.declared.fault.StepFault.{StepFault}
use Rattle.block_driver.specs.declared.fault.StepFault.TheVariants as fault
use Rattle.block_driver.specs.declared.hold.Owed.{Owed}
use Rattle.block_driver.specs.declared.hold.Owed.TheVariants as owed
use Rattle.block_driver.specs.declared.progress.Progress.{Progress}
use Rattle.block_driver.specs.declared.progress.Progress.TheVariants as progress
use Rattle.block_driver.specs.Led.{IsLed}
use Rattle.block_driver.specs.Progress.{may_run, has_asked, is_without_run}

-- ---- what a worker owes

-- a worker owes the run of a call of the block
pub record OwesRun (w call n : ℕ) (b : CoreState) : Type 0 where
  pub owed : next_step_of b.state (task_at b.state w) ≡ next_step.Run call n
  pub within : call < length b.job.block

-- a worker has no task, and its last step was an asking
pub record GotNoTask (w : ℕ) (b : CoreState) : Type 0 where
  pub before : CoreState
  pub asks : Makes w steps.Ask before b
  pub idle : task_at b.state w ≡ Idle

-- what ends the steps of a worker before it has made as many as it may
abbrev pub IsEnd : ℕ → CoreState → Owed → Type 0
IsEnd w b (owed.Run call n) = OwesRun w call n b
IsEnd w b owed.Nothing = GotNoTask w b
IsEnd w b owed.Done = is_done b.state ≡ true
IsEnd w b owed.Again = ⊥

-- what a worker owes after this many steps of at most `most`
abbrev pub IsOwed : ℕ → ℕ → ℕ → CoreState → Owed → Type 0
IsOwed w most made b owed.Again = made ≡ most
IsOwed w most made b told = IsEnd w b told

-- ---- why a step is refused

-- a step meets a limit
abbrev pub IsLimitMet : StepFault → ℕ → CoreState → Type 0
IsLimitMet fault.ArenaFull w b = IsRefused w Record steps.ArenaFull b
IsLimitMet fault.IncarnationLimit w b = (step : Step) × IsRefused w step steps.IncarnationLimit b
IsLimitMet fault.StepLimit w b = (get_or b.state.counts w no_counts).steps ≡ count_limit
IsLimitMet other w b = ⊥

-- a worker owes no step of a run
abbrev pub OwesNoRun : ℕ → CoreState → Type 0
OwesNoRun w b = is_due Record (task_at b.state w) ≡ false

-- a run is not that of the worker's task
abbrev pub IsForeign : ℕ → Progress → CoreState → Type 0
IsForeign w (progress.Answered asking base) b = OwesNoRun w b
IsForeign w (progress.Ready ready) b = OwesNoRun w b ⊎ ((run : EndedRun) → IsReadyOf run ready → IsOwn w run b → ⊥)
IsForeign w has b = ⊥

-- the next step wants memory: a read without room, a record that would be made, or a call whose run begins
abbrev pub WantsMemory : ℕ → Progress → CoreState → Type 0
WantsMemory w (progress.Answered asking base) b = HasReadRoom w b → ⊥
WantsMemory w (progress.Ready ready) b = IsTaken w Record b
WantsMemory w (progress.Idle left) b = (call : ℕ) × (n : ℕ) × OwesRun w call n b
WantsMemory w has b = ⊥

-- why a step is refused, by the core and by what its worker has
abbrev pub IsFaultCause : StepFault → ℕ → Progress → CoreState → Type 0
IsFaultCause fault.Foreign w has b = (w < length b.state.tasks → ⊥) ⊎ IsForeign w has b
IsFaultCause fault.Memory w has b = WantsMemory w has b
IsFaultCause limit w has b = IsLimitMet limit w b

-- ---- the result of steps

-- a worker that owes a run has one
abbrev pub HasRun : Owed → Progress → Type 0
HasRun (owed.Run call n) has = (may_run has ≡ true) ⊎ (has_asked has ≡ true)
HasRun told has = ⊤

-- the answer to steps: what the worker owes then, or a fault for a cause
abbrev pub TellsOwed : ℕ → ℕ → ℕ → Progress → CoreState → Result Owed StepFault → Type 0
TellsOwed w most made has b (Ok told) = IsOwed w most made b told × HasRun told has
TellsOwed w most made has b (Err found) = IsFaultCause found w has b

-- if a fault comes before any step, the worker has what it had
abbrev pub KeepsProgress : ℕ → Progress → Progress → Result Owed StepFault → Type 0
KeepsProgress made has left (Ok told) = ⊤
KeepsProgress made has left (Err found) = made ≡ 0 → left ≡ has

-- the result of at most `most` steps of a worker
pub record IsStepped (w most : ℕ) (has left : Progress) (old new : CoreState) (told : Result Owed StepFault) : Type 0 where
  pub made : ℕ
  pub few : made ≤ most
  pub led : IsLed w made old new
  pub tells : TellsOwed w most made left new told
  pub keeps : KeepsProgress made has left told

-- ---- private help: the parts of a step

-- the answer to steps that are of no run
abbrev pub TellsHeld : ℕ → ℕ → ℕ → CoreState → Result Owed StepFault → Type 0
TellsHeld w most made b (Ok told) = IsOwed w most made b told
TellsHeld w most made b (Err found) = IsLimitMet found w b

pub record IsHeld (w most : ℕ) (old new : CoreState) (told : Result Owed StepFault) : Type 0 where
  pub made : ℕ
  pub few : made ≤ most
  pub led : IsLed w made old new
  pub tells : TellsHeld w most made new told

-- one of them, or none if the worker owes a run
abbrev pub IsOneHeld : ℕ → CoreState → CoreState → Result (Option Owed) StepFault → Type 0
IsOneHeld w old new (Ok None) = IsLed w 1 old new
IsOneHeld w old new (Ok (Some told)) = (IsLed w 1 old new ⊎ (new ≡ old)) × IsEnd w new told
IsOneHeld w old new (Err found) = (new ≡ old) × IsLimitMet found w new

-- a worker owes an asking, or a step of its task by its kind
pub record OwesAsk (w : ℕ) (b : CoreState) : Type 0 where
  pub within : w < length b.state.tasks
  pub due : is_due steps.Ask (task_at b.state w) ≡ true

pub record OwesMake (w : ℕ) (kind : StepKind) (b : CoreState) : Type 0 where
  pub within : w < length b.state.tasks
  pub due : is_due (step_of kind) (task_at b.state w) ≡ true

-- a worker owes a step of a run, and may count one more
pub record OwesRunStep (w : ℕ) (b : CoreState) : Type 0 where
  pub read : (key : List ℕ) → IsDue w (ReadKey key) b
  pub record_ : IsDue w Record b

-- it may not make one: it owes none, or has made as many steps as it may
abbrev pub MayNotStep : StepFault → ℕ → CoreState → Type 0
MayNotStep fault.Foreign w b = OwesNoRun w b
MayNotStep fault.StepLimit w b = (get_or b.state.counts w no_counts).steps ≡ count_limit
MayNotStep other w b = ⊥

-- the read of a key by a worker's run is made, or it is refused for a cause
abbrev pub IsReadBase : ℕ → CoreState → CoreState → Result ReadResult StepFault → Type 0
IsReadBase w old new (Ok answer) = IsLed w 1 old new
IsReadBase w old new (Err fault.Memory) = (new ≡ old) × (HasReadRoom w new → ⊥)
IsReadBase w old new (Err found) = (new ≡ old) × MayNotStep found w new

-- the fault of a record that is refused
abbrev pub step_fault : RecordFault → StepFault
step_fault record_fault.Foreign = fault.Foreign
step_fault record_fault.ArenaFull = fault.ArenaFull
step_fault record_fault.IncarnationLimit = fault.IncarnationLimit
step_fault record_fault.Memory = fault.Memory

-- a run that is owed is of a call of the block
abbrev pub IsWithinBlock : Owed → CoreState → Type 0
IsWithinBlock (owed.Run call n) b = call < length b.job.block
IsWithinBlock told b = ⊤

-- how many steps of a run a worker makes at once
abbrev pub run_steps : Progress → ℕ
run_steps (progress.Answered asking base) = 1
run_steps (progress.Ready ready) = 1
run_steps has = 0

-- the result of these
abbrev pub IsRunStep : ℕ → Progress → Progress → CoreState → CoreState → Result Unit StepFault → Type 0
IsRunStep w has left old new (Ok t) = IsLed w (run_steps has) old new × (run_steps left ≡ 0) × (run_steps has ≡ 0 → left ≡ has)
IsRunStep w has left old new (Err found) = (new ≡ old) × (left ≡ has) × IsFaultCause found w has new

-- a worker that owes a run has one, or memory ran out for the call
abbrev pub IsRunBegun : Progress → Progress → Result Owed StepFault → Result Owed StepFault → Type 0
IsRunBegun has left (Ok (owed.Run call n)) told = ((told ≡ Ok (owed.Run call n)) × HasRun (owed.Run call n) left) ⊎ ((told ≡ Err fault.Memory) × (left ≡ has) × (is_without_run has ≡ true))
IsRunBegun has left held told = (told ≡ held) × (left ≡ has)
