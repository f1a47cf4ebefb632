-- The state of a speculative run of a block (Block-STM: the multi-version memory and the scheduler).
use Rattle.std.specs.Prelude.{ℕ, ◌==◌, Bool, true, false, ◌&&◌, List, get_or, set, length, replicate, None}
use Rattle.std.specs.List.{list_all}
use Rattle.std.specs.FinMap.{empty}
use Rattle.rv_ledger.specs.declared.outcome.Counts.{Counts}
use Rattle.mvmap.specs.Versions.{Versions}
use Rattle.stm_state.specs.declared.state.Status.{Status}
use Rattle.stm_state.specs.declared.state.Status.TheVariants.{Ready, Executed, Aborting}
use Rattle.stm_state.specs.declared.state.CallState.{CallState}
use Rattle.stm_state.specs.declared.state.Task.{Task}
use Rattle.stm_state.specs.declared.state.Task.TheVariants.{Idle}

-- the calls and their versions; the execution index and the validation index. For each worker its task, its counts and the number
-- of its `Ask` steps answered Done. Then the number of writes that all recorded runs had together
pub record State : Type 0 where
  pub calls : List CallState
  pub versions : Versions
  pub execution : ℕ
  pub validation : ℕ
  pub tasks : List Task
  pub counts : List Counts
  pub dones : List ℕ
  pub record_count : ℕ

-- a call in the start state
abbrev pub fresh : CallState
fresh = record { status = Ready; incarnation = 0; parked = None; last = None }

-- the counts of a worker in the start state
abbrev pub no_counts : Counts
no_counts = record { steps = 0; asks = 0; executions = 0; validations = 0 }

-- the start state of a block of n calls with this number of workers
abbrev pub start_state : ℕ → ℕ → State
start_state n workers = record {
  calls = replicate n fresh;
  versions = empty;
  execution = 0;
  validation = 0;
  tasks = replicate workers Idle;
  counts = replicate workers no_counts;
  dones = replicate workers 0;
  record_count = 0;
}

-- the call at an index, and the task of a worker
abbrev pub call_at : State → ℕ → CallState
call_at s i = get_or s.calls i fresh

abbrev pub task_at : State → ℕ → Task
task_at s w = get_or s.tasks w Idle

-- a state with another call at an index, and one with another task of a worker
abbrev pub with_call : ℕ → CallState → State → State
with_call i call s = record s { calls = set s.calls i call }

abbrev pub with_task : ℕ → Task → State → State
with_task w task s = record s { tasks = set s.tasks w task }

-- tests of a status and of a task
abbrev pub is_ready : Status → Bool
is_ready Ready = true
is_ready _ = false

abbrev pub is_executed : Status → Bool
is_executed Executed = true
is_executed _ = false

abbrev pub is_aborting : Status → Bool
is_aborting Aborting = true
is_aborting _ = false

abbrev pub is_idle : Task → Bool
is_idle Idle = true
is_idle _ = false

-- both indices are past the last call, and no worker has a task
unfoldable pub is_done : State → Bool
is_done s = s.execution == length s.calls && s.validation == length s.calls && list_all is_idle s.tasks
