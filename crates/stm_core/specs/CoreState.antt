-- The state of a job's run, and what its calls owe to worker steps.
use Rattle.std.specs.Prelude.{◌≡◌, ◌<◌, ◌≤◌, ◌==◌, ℕ, zero, suc, Bool, true, false, List, [], ◌∷◌, length, get_or, Option, None, Some, Ok, Err, IfSome, slice_get}
use Rattle.std.specs.FinMap as map
use Rattle.rv_ledger.specs.Key.{Storage}
use Rattle.rv_ledger.specs.declared.job.Job.{Job}
use Rattle.rv_step.specs.declared.answer.StorageAnswer.{StorageAnswer}
use Rattle.rv_step.specs.declared.ended_run.EndedRun.{EndedRun}
use Rattle.mvmap.specs.Reading.{Visible, blocker, origin_in, value_seen}
use Rattle.stm_state.specs.declared.state.Task.{Task}
use Rattle.stm_state.specs.declared.state.Task.TheVariants.{Idle, Running, Moving, Validating, Marking}
use Rattle.stm_state.specs.State.{State, call_at, task_at, no_counts}
use Rattle.stm_state.specs.Steps.{Block, Step, Ask, ReadKey, Park, Record, MoveKey, FinishExecution, CheckRead, Decide, MarkEstimate, FinishAbort, Limit, recorded_run, worker_step}
use Rattle.stm_state.specs.Done.{block_of}
use Rattle.scheduler.specs.Schedule.{KeepsRooms, count_limit}
use Rattle.stm_core.specs.declared.next_step.AskResult.{AskResult}
use Rattle.stm_core.specs.declared.next_step.AskResult.TheVariants as ask_result
use Rattle.stm_core.specs.declared.next_step.NextStep.{NextStep}
use Rattle.stm_core.specs.declared.next_step.NextStep.TheVariants as next_step
use Rattle.stm_core.specs.declared.next_step.StepKind.{StepKind}
use Rattle.stm_core.specs.declared.next_step.StepKind.TheVariants as kinds
use Rattle.stm_core.specs.declared.next_step.ReadResult.{ReadResult}
use Rattle.stm_core.specs.declared.next_step.ReadResult.TheVariants as read_result
use Rattle.stm_core.specs.declared.ready_record.ReadyRecord.{ReadyRecord}

-- how many versions a read may pass: in the list for the origin that is kept, and in the one for the origin that is handed
-- out
pub record PassedRoom : Type 0 where
  pub kept : ℕ
  pub lent : ℕ

-- how long a value may be that a read finds: in the list for the answer that is kept, and in the one for the answer that is
-- handed out
pub record ValueRoom : Type 0 where
  pub kept : ℕ
  pub lent : ℕ

-- both, for the next read of any worker
pub record ReadSizes : Type 0 where
  pub passed : PassedRoom
  pub values : ValueRoom

-- a job, the state of its run, the number of further answers that each worker's run has room for, and how much the next read of
-- a worker may pass and find
pub record CoreState : Type 0 where
  pub job : Job
  pub state : State
  pub rooms : List ℕ
  pub room : ReadSizes

abbrev pub block_in : CoreState → Block
block_in b = block_of b.job.block b.job.store

-- whether a task owes a step; a run that is not blocked owes both a read of any key and a record
abbrev pub is_due : Step → Task → Bool
is_due Ask Idle = true
is_due (ReadKey key) (Running i answers None) = true
is_due Record (Running i answers None) = true
is_due Park (Running i answers (Some b)) = true
is_due MoveKey (Moving i (key ∷ keys) new) = true
is_due FinishExecution (Moving i [] new) = true
is_due Decide (Validating i n left true) = true
is_due CheckRead (Validating i n (suc left) false) = true
is_due Decide (Validating i n zero false) = true
is_due MarkEstimate (Marking i (key ∷ keys)) = true
is_due FinishAbort (Marking i []) = true
is_due step task = false

-- a worker owes a step, and its number of steps is below the limit, so that it may count this one
pub record IsDue (w : ℕ) (step : Step) (b : CoreState) : Type 0 where
  pub worker : w < length b.state.tasks
  pub due_step : is_due step (task_at b.state w) ≡ true
  pub steps : (get_or b.state.counts w no_counts).steps < count_limit

-- whether a step reads a key
abbrev pub is_read : Step → Bool
is_read (ReadKey key) = true
is_read step = false

-- a worker's step was made; the other workers' runs have room for as many answers as before, and unless it is a read there is
-- as much room for reads
abbrev pub Makes : ℕ → Step → CoreState → CoreState → Type 0
Makes w step old new =
    (worker_step (block_in old) w step old.state ≡ Some (Ok new.state)) × (new.job ≡ old.job) × KeepsRooms w old.rooms new.rooms
    × (is_read step ≡ false → new.room ≡ old.room)

-- a worker's step is refused
abbrev pub IsRefused : ℕ → Step → Limit → CoreState → Type 0
IsRefused w step limit b = worker_step (block_in b) w step b.state ≡ Some (Err limit)

-- a worker's step is not refused
abbrev pub IsTaken : ℕ → Step → CoreState → Type 0
IsTaken w step b = (s : State) × (worker_step (block_in b) w step b.state ≡ Some (Ok s))

-- the step of a kind
abbrev pub step_of : StepKind → Step
step_of kinds.Park = Park
step_of kinds.MoveKey = MoveKey
step_of kinds.FinishExecution = FinishExecution
step_of kinds.CheckRead = CheckRead
step_of kinds.Decide = Decide
step_of kinds.MarkEstimate = MarkEstimate
step_of kinds.FinishAbort = FinishAbort

-- the step that a worker owes, with the call and its incarnation; in a validation, the one whose reads are checked
abbrev pub next_step_of : State → Task → NextStep
next_step_of s Idle = next_step.Ask
next_step_of s (Running i answers None) = next_step.Run i (call_at s i).incarnation
next_step_of s (Running i answers (Some b)) = next_step.Make kinds.Park i (call_at s i).incarnation
next_step_of s (Moving i (key ∷ keys) new) = next_step.Make kinds.MoveKey i (call_at s i).incarnation
next_step_of s (Moving i [] new) = next_step.Make kinds.FinishExecution i (call_at s i).incarnation
next_step_of s (Validating i n left true) = next_step.Make kinds.Decide i n
next_step_of s (Validating i n zero false) = next_step.Make kinds.Decide i n
next_step_of s (Validating i n (suc left) false) = next_step.Make kinds.CheckRead i n
next_step_of s (Marking i (key ∷ keys)) = next_step.Make kinds.MarkEstimate i (call_at s i).incarnation
next_step_of s (Marking i []) = next_step.Make kinds.FinishAbort i (call_at s i).incarnation

-- the call that a step names has an index below `count`
abbrev pub IsWithin : ℕ → NextStep → Type 0
IsWithin count next_step.Ask = Unit {0}
IsWithin count (next_step.Run i n) = i < count
IsWithin count (next_step.Make kind i n) = i < count

-- the answer to `ask`, by whether all was done before it and by the task that the worker has after it
abbrev pub ask_result_of : Bool → Task → AskResult
ask_result_of true task = ask_result.Done
ask_result_of false Idle = ask_result.Nothing
ask_result_of false task = ask_result.Task

-- the answer to a read of a key, by what is seen of it: the value and its origin, if no estimate is met
abbrev pub read_result_by : Storage → List ℕ → Visible → Option ℕ → ReadResult
read_result_by base key seen None = read_result.Given (value_seen (map.get base key) seen) (origin_in seen)
read_result_by base key seen (Some writer) = read_result.Blocked

abbrev pub read_result_of : Storage → List ℕ → Visible → ReadResult
read_result_of base key seen = read_result_by base key seen (blocker seen)

-- the answers that a task's run was given; none if the task runs no call
abbrev pub answers_of : Task → List StorageAnswer
answers_of (Running i answers blocked) = answers
answers_of task = []

-- whether a task runs the call at an index
abbrev pub runs : Task → ℕ → Bool
runs (Running j answers blocked) i = j == i
runs task i = false

-- the index of the call that a task runs; 0 if it runs none
abbrev pub index_run : Task → ℕ
index_run (Running i answers blocked) = i
index_run task = 0

-- a read may find any value
pub record HasValueRoom (room : ValueRoom) : Type 0 where
  pub kept : 256 ≤ room.kept
  pub lent : 256 ≤ room.lent

-- a read of the call that a task runs may pass all calls below it, and find any value
pub record IsRoomFor (task : Task) (room : ReadSizes) : Type 0 where
  pub kept : index_run task ≤ room.passed.kept
  pub lent : index_run task ≤ room.passed.lent
  pub values : HasValueRoom room.values

-- there is no less room than before
pub record IsNoLess (old new : ReadSizes) : Type 0 where
  pub kept : old.passed.kept ≤ new.passed.kept
  pub lent : old.passed.lent ≤ new.passed.lent
  pub kept_value : old.values.kept ≤ new.values.kept
  pub lent_value : old.values.lent ≤ new.values.lent

-- a content takes no memory of its own: it is absent, or has at most 16 bytes
abbrev pub IsInPlace : Option (List ℕ) → Type 0
IsInPlace content = IfSome content (λ bytes. length bytes ≤ 16)

-- nor does the content that a read gives, if it gives one
abbrev pub GivesInPlace : ReadResult → Type 0
GivesInPlace (read_result.Given content origin) = IsInPlace content
GivesInPlace read_result.Blocked = Unit {0}

-- there is room for a worker's next read: for one more answer, for as many passed versions as there are calls below its own,
-- and for any value
pub record HasReadRoom (w : ℕ) (b : CoreState) : Type 0 where
  pub answer : 1 ≤ get_or b.rooms w 0
  pub room : IsRoomFor (task_at b.state w) b.room

-- a run is a run of the call that a worker's task runs, and was given exactly the answers of that task
pub record IsOwn (w : ℕ) (run : EndedRun) (b : CoreState) : Type 0 where
  pub call : ℕ
  pub runs : runs (task_at b.state w) call ≡ true
  pub same_call : slice_get b.job.block call ≡ Some run.call
  pub same_answers : run.answers.items ≡ answers_of (task_at b.state w)

-- a run is ready to be recorded: its call and its answers, and its receipt with the reads that it made
pub record IsReadyOf (run : EndedRun) (ready : ReadyRecord) : Type 0 where
  pub call : ready.call ≡ run.call
  pub answers : ready.answers ≡ run.answers
  pub recorded : ready.recorded ≡ Some (recorded_run run.answers.items run.receipt)
