-- What the clauses say of a worker.
use Rattle.std.specs.Prelude.{◌≡◌, ◌≢◌, ◌++◌, ◌∷◌, [], ℕ, Bool, true, List, Some, get_or}
use Rattle.rv_ledger.specs.declared.outcome.Counts.{Counts}
use Rattle.rv_step.specs.declared.answer.StorageAnswer.{StorageAnswer}
use Rattle.stm_state.specs.declared.state.Task.{Task}
use Rattle.stm_state.specs.State.{no_counts}
use Rattle.stm_state.specs.declared.state.Task.TheVariants as task
use Rattle.scheduler.specs.declared.worker.TaskKind.{TaskKind}
use Rattle.scheduler.specs.declared.worker.TaskKind.TheVariants as task_kind

-- the task of a worker: its kind, the answers that its run was given, and the keys that it still has to move or to mark
abbrev pub task_with : TaskKind → List StorageAnswer → List (List ℕ) → Task
task_with task_kind.Idle answers keys = task.Idle
task_with (task_kind.Running call blocked) answers keys = task.Running call answers blocked
task_with (task_kind.Moving call new) answers keys = task.Moving call keys new
task_with (task_kind.Validating call incarnation left failed) answers keys = task.Validating call incarnation left failed
task_with (task_kind.Marking call) answers keys = task.Marking call keys

-- a worker: its task, what it did, the number of its askings that were answered Done, the number of further answers that it
-- has room for, and the number of keys that its list has room for
pub record WorkerState : Type 0 where
  pub task : Task
  pub counts : Counts
  pub dones : ℕ
  pub room : ℕ
  pub key_room : ℕ

abbrev pub task_of : WorkerState → Task
task_of w = w.task

abbrev pub counts_of : WorkerState → Counts
counts_of w = w.counts

abbrev pub worker_dones : WorkerState → ℕ
worker_dones w = w.dones

abbrev pub worker_room : WorkerState → ℕ
worker_room w = w.room

-- a worker without the room of its list of keys
abbrev pub but_key_room : WorkerState → WorkerState
but_key_room w = record w { key_room = 0 }

-- a worker without a task, which has done nothing yet
abbrev pub idle_worker : WorkerState
idle_worker = record { task = task.Idle; counts = no_counts; dones = 0; room = 0; key_room = 0 }

-- four changes of a task: a run gets one more answer, a run has other answers, a run is blocked on a call, and a validation
-- fails; a task of another kind stays as it is
abbrev pub with_answer : StorageAnswer → Task → Task
with_answer answer task.Idle = task.Idle
with_answer answer (task.Running call answers blocked) = task.Running call (answers ++ answer ∷ []) blocked
with_answer answer (task.Moving call keys new) = task.Moving call keys new
with_answer answer (task.Validating call incarnation left failed) = task.Validating call incarnation left failed
with_answer answer (task.Marking call keys) = task.Marking call keys

-- a run was given these answers; a task of another kind stays as it is
abbrev pub with_answers : List StorageAnswer → Task → Task
with_answers answers task.Idle = task.Idle
with_answers answers (task.Running call before blocked) = task.Running call answers blocked
with_answers answers (task.Moving call keys new) = task.Moving call keys new
with_answers answers (task.Validating call incarnation left failed) = task.Validating call incarnation left failed
with_answers answers (task.Marking call keys) = task.Marking call keys

abbrev pub blocked_on : ℕ → Task → Task
blocked_on on task.Idle = task.Idle
blocked_on on (task.Running call answers blocked) = task.Running call answers (Some on)
blocked_on on (task.Moving call keys new) = task.Moving call keys new
blocked_on on (task.Validating call incarnation left failed) = task.Validating call incarnation left failed
blocked_on on (task.Marking call keys) = task.Marking call keys

abbrev pub failed_check : Task → Task
failed_check task.Idle = task.Idle
failed_check (task.Running call answers blocked) = task.Running call answers blocked
failed_check (task.Moving call keys new) = task.Moving call keys new
failed_check (task.Validating call incarnation left failed) = task.Validating call incarnation left true
failed_check (task.Marking call keys) = task.Marking call keys

-- a task runs a call
abbrev pub IsRunning : Task → Type 0
IsRunning task.Idle = ⊥
IsRunning (task.Running call answers blocked) = Unit {0}
IsRunning (task.Moving call keys new) = ⊥
IsRunning (task.Validating call incarnation left failed) = ⊥
IsRunning (task.Marking call keys) = ⊥

-- a task moves or marks keys
abbrev pub HasKeys : Task → Type 0
HasKeys task.Idle = ⊥
HasKeys (task.Running call answers blocked) = ⊥
HasKeys (task.Moving call keys new) = Unit {0}
HasKeys (task.Validating call incarnation left failed) = ⊥
HasKeys (task.Marking call keys) = Unit {0}

-- a task moves or marks keys, and has one left
abbrev pub HasKeyLeft : Task → Type 0
HasKeyLeft task.Idle = ⊥
HasKeyLeft (task.Running call answers blocked) = ⊥
HasKeyLeft (task.Moving call [] new) = ⊥
HasKeyLeft (task.Moving call (key ∷ keys) new) = Unit {0}
HasKeyLeft (task.Validating call incarnation left failed) = ⊥
HasKeyLeft (task.Marking call []) = ⊥
HasKeyLeft (task.Marking call (key ∷ keys)) = Unit {0}

-- no worker moves the keys of a call
abbrev pub NobodyMoves : ℕ → List Task → Type 0
NobodyMoves call tasks = (w : ℕ) (keys : List (List ℕ)) (new : Bool) → get_or tasks w task.Idle ≢ task.Moving call keys new

-- a kind of task for which a worker gets no keys
abbrev pub HasNoKeys : TaskKind → Type 0
HasNoKeys task_kind.Idle = Unit {0}
HasNoKeys (task_kind.Running call blocked) = Unit {0}
HasNoKeys (task_kind.Moving call new) = ⊥
HasNoKeys (task_kind.Validating call incarnation left failed) = Unit {0}
HasNoKeys (task_kind.Marking call) = ⊥

-- a task without the answers and the keys
abbrev pub task_kind_of : Task → TaskKind
task_kind_of task.Idle = task_kind.Idle
task_kind_of (task.Running call answers blocked) = task_kind.Running call blocked
task_kind_of (task.Moving call keys new) = task_kind.Moving call new
task_kind_of (task.Validating call incarnation left failed) = task_kind.Validating call incarnation left failed
task_kind_of (task.Marking call keys) = task_kind.Marking call

abbrev pub IsTaskKindOf : TaskKind → Task → Type 0
IsTaskKindOf d t = d ≡ task_kind_of t
