-- What the refusals of a run along a list of worker numbers say about the list, and how a run under way fits its worker's
-- task.
use Rattle.std.specs.Prelude.{◌≡◌, List, [], Option, None, Some, Result, Err, slice_get}
use Rattle.rv_ledger.specs.Call.{Invocation}
use Rattle.rv_step.specs.Run.{RunView}
use Rattle.stm_state.specs.declared.state.Task.{Task}
use Rattle.stm_state.specs.declared.state.Task.TheVariants.{Running}
use Rattle.stm_state.specs.State.{State}
use Rattle.stm_state.specs.Steps.{Limit, ArenaFull, IncarnationLimit}
use Rattle.stm_state.specs.Drive.{DriveRefusal, NotDone, BadWorker, Limited}
use Rattle.stm_core.specs.declared.driving.DriveFault.{DriveFault}
use Rattle.stm_core.specs.declared.driving.DriveFault.TheVariants as fault

-- the result of a list, by its refusal; if memory ran out, nothing is said about it
abbrev pub IsRefusal : DriveFault → Result State DriveRefusal → Type 0
IsRefusal fault.NotDone r = r ≡ Err NotDone
IsRefusal fault.BadWorker r = r ≡ Err BadWorker
IsRefusal fault.ArenaFull r = r ≡ Err (Limited ArenaFull)
IsRefusal fault.IncarnationLimit r = r ≡ Err (Limited IncarnationLimit)
IsRefusal fault.Memory r = Unit {0}

-- the result of the step that a worker owes, by its refusal; NotDone and BadWorker never refuse a step
abbrev pub IsStepRefusal : DriveFault → Option (Result State Limit) → Type 0
IsStepRefusal fault.NotDone r = ⊥
IsStepRefusal fault.BadWorker r = ⊥
IsStepRefusal fault.ArenaFull r = r ≡ Some (Err ArenaFull)
IsStepRefusal fault.IncarnationLimit r = r ≡ Some (Err IncarnationLimit)
IsStepRefusal fault.Memory r = Unit {0}

-- a task's run has no answers yet, unless it is blocked
abbrev pub HasNoAnswers : Task → Type 0
HasNoAnswers (Running i answers None) = answers ≡ []
HasNoAnswers task = Unit {0}

-- a run under way is a run of the call that a task runs, and was given exactly that task's answers
abbrev pub IsRunOf : List Invocation → RunView → Task → Type 0
IsRunOf calls run (Running i answers None) = (slice_get calls i ≡ Some run.call) × (run.answers ≡ answers)
IsRunOf calls run task = ⊥

-- a worker's run under way is the run of its task; if there is none, the task's run has no answers yet or is blocked
abbrev pub FitsTask : List Invocation → Option RunView → Task → Type 0
FitsTask calls None task = HasNoAnswers task
FitsTask calls (Some run) task = IsRunOf calls run task
