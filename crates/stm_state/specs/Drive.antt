-- A job that is driven by a list of worker numbers. Each entry makes the one step that its worker owes. A run reads the keys that
-- its call asks for.
use Rattle.std.specs.Prelude.{◌≡◌, ◌<◌, ℕ, zero, suc, true, false, nat_lt, nat_le, ◌&&◌, if◌then◌else◌, List, [], ◌∷◌, length, Option, None, Some, IsSome, slice_get, Result, Ok, Err}
use Rattle.rv_ledger.specs.Key.{Storage}
use Rattle.rv_ledger.specs.Call.{Invocation}
use Rattle.rv_step.specs.Asked.{asked_by}
use Rattle.rv_step.specs.Moment.{Reply}
use Rattle.rv_step.specs.Replies.{replies_of}
use Rattle.rv_step.specs.declared.answer.StorageAnswer.{StorageAnswer}
use Rattle.stm_state.specs.declared.state.Task.{Task}
use Rattle.stm_state.specs.declared.state.Task.TheVariants.{Idle, Running, Moving, Validating, Marking}
use Rattle.stm_state.specs.State.{State, start_state, task_at, is_done}
use Rattle.stm_state.specs.Steps.{Step, Ask, ReadKey, Park, Record, MoveKey, FinishExecution, CheckRead, Decide, MarkEstimate, FinishAbort, Limit, worker_step}
use Rattle.stm_state.specs.Done.{MeetsLimit, block_of}

-- a run that asks for a key reads it, and a run that has ended is recorded
abbrev pub due_step_of_run : Option (List ℕ) → Step
due_step_of_run (Some key) = ReadKey key
due_step_of_run None = Record

-- the key that the call at an index asks for after these replies
abbrev pub asked_at : Option Invocation → List Reply → Option (List ℕ)
asked_at None replies = None
asked_at (Some call) replies = asked_by call replies

-- the step that a worker with this task owes; `run` gives the step that a run owes
abbrev pub step_by_task : (ℕ → List StorageAnswer → Step) → Task → Step
step_by_task run Idle = Ask
step_by_task run (Running i answers None) = run i answers
step_by_task run (Running i answers (Some b)) = Park
step_by_task run (Moving i (key ∷ keys) new) = MoveKey
step_by_task run (Moving i [] new) = FinishExecution
step_by_task run (Validating i n left true) = Decide
step_by_task run (Validating i n zero false) = Decide
step_by_task run (Validating i n (suc left) false) = CheckRead
step_by_task run (Marking i (key ∷ keys)) = MarkEstimate
step_by_task run (Marking i []) = FinishAbort

abbrev pub due_step : List Invocation → Task → Step
due_step calls task = step_by_task (λ i answers. due_step_of_run (asked_at (slice_get calls i) (replies_of answers))) task

-- the result of that step
abbrev pub due_result : List Invocation → Storage → ℕ → State → Option (Result State Limit)
due_result calls store w s = worker_step (block_of calls store) w (due_step calls (task_at s w)) s

-- the states that lists of worker numbers lead to from the start state of a job
pub data DrivenTo (calls : List Invocation) (store : Storage) (workers : ℕ) : State → Type 0 where
  at_start : DrivenTo calls store workers (start_state (length calls) workers)
  made_step : {s t : State} (w : ℕ) → DrivenTo calls store workers s → w < workers → due_result calls store w s ≡ Some (Ok t) → DrivenTo calls store workers t

-- in each of these states the step that a worker owes is due
abbrev pub DueStepHasResult : Type 0
DueStepHasResult = (calls : List Invocation) (store : Storage) (workers : ℕ) (s : State) (w : ℕ) → DrivenTo calls store workers s → w < workers → IsSome (due_result calls store w s)

-- why a list is refused. NotDone: it is used up and workers are not done. BadWorker: an entry is not a worker's number, or the
-- number of workers is not 1 to 32. Limited: a step is refused for a limit
pub data DriveRefusal : Type 0 where
  NotDone : DriveRefusal
  BadWorker : DriveRefusal
  Limited : Limit → DriveRefusal

-- the rest of a list after the result of a step; the case None does not occur (`DueStepHasResult`)
abbrev pub continue_drive : (State → Result State DriveRefusal) → Option (Result State Limit) → Result State DriveRefusal
continue_drive rest None = Err NotDone
continue_drive rest (Some (Ok s)) = rest s
continue_drive rest (Some (Err limit)) = Err (Limited limit)

-- the result of a list that starts at a state
unfoldable pub driven : List Invocation → Storage → ℕ → List ℕ → State → Result State DriveRefusal
driven calls store workers [] s = if is_done s then Ok s else Err NotDone
driven calls store workers (w ∷ ws) s =
    if nat_lt w workers then continue_drive (λ t. driven calls store workers ws t) (due_result calls store w s) else Err BadWorker

-- the result of a list that starts at the start state of a job
abbrev pub drive_of : List Invocation → Storage → ℕ → List ℕ → Result State DriveRefusal
drive_of calls store workers schedule =
    if nat_le 1 workers && nat_le workers 32 then driven calls store workers schedule (start_state (length calls) workers) else Err BadWorker

-- if a list is refused for a limit, workers reach a state in which a step is refused for that limit
abbrev pub RefusedListMeetsLimit : Type 0
RefusedListMeetsLimit = (calls : List Invocation) (store : Storage) (workers : ℕ) (schedule : List ℕ) (limit : Limit) → drive_of calls store workers schedule ≡ Err (Limited limit) → MeetsLimit (block_of calls store) workers limit
