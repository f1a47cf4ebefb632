-- What the scheduler keeps of a block's run.
use Rattle.std.specs.Prelude.{◌≡◌, ◌≢◌, ◌<◌, ℕ, List, length, map, get_or}
use Rattle.rv_ledger.specs.declared.outcome.Counts.{Counts}
use Rattle.mvmap.specs.Versions.{Versions}
use Rattle.stm_state.specs.declared.state.CallState.{CallState}
use Rattle.stm_state.specs.declared.state.Task.{Task}
use Rattle.stm_state.specs.State.{State, no_counts}
use Rattle.scheduler.specs.Workers.{WorkerState, counts_of, task_of, worker_dones, worker_room}

-- a state without its versions; the number of further answers that each worker's run has room for; and the number of keys
-- that the list of each worker has room for, at least
pub record Schedule : Type 0 where
  pub calls : List CallState
  pub execution : ℕ
  pub validation : ℕ
  pub tasks : List Task
  pub counts : List Counts
  pub dones : List ℕ
  pub rooms : List ℕ
  pub key_room : ℕ

-- what the scheduler keeps, from its calls, its indices, the room for keys and its workers
abbrev pub schedule_of : List CallState → ℕ → ℕ → ℕ → List WorkerState → Schedule
schedule_of calls execution validation key_room workers = record {
  calls = calls;
  execution = execution;
  validation = validation;
  tasks = map task_of workers;
  counts = map counts_of workers;
  dones = map worker_dones workers;
  rooms = map worker_room workers;
  key_room = key_room;
}

-- the state of a schedule with these versions and this number of placed records
abbrev pub state_of : Versions → ℕ → Schedule → State
state_of versions placed s = record {
  calls = s.calls;
  versions = versions;
  execution = s.execution;
  validation = s.validation;
  tasks = s.tasks;
  counts = s.counts;
  dones = s.dones;
  record_count = placed;
}

-- every other worker has as much room for answers as before
abbrev pub KeepsRooms : ℕ → List ℕ → List ℕ → Type 0
KeepsRooms w old new = (u : ℕ) → u ≢ w → get_or new u 0 ≡ get_or old u 0

-- the greatest value of a count, 2^64 - 1
abbrev pub count_limit : ℕ
count_limit = 18446744073709551615

-- each count of a worker may grow by one
pub record MayCount (worker : ℕ) (s : Schedule) : Type 0 where
  pub within : worker < length s.tasks
  pub steps : (get_or s.counts worker no_counts).steps < count_limit
  pub asks : (get_or s.counts worker no_counts).asks < count_limit
  pub executions : (get_or s.counts worker no_counts).executions < count_limit
  pub validations : (get_or s.counts worker no_counts).validations < count_limit
  pub dones : get_or s.dones worker 0 < count_limit
