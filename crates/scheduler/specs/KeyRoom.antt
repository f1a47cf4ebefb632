-- Room for the keys that workers move and mark; only `Scheduler`'s invariant uses this.
use Rattle.std.specs.Prelude.{◌≤◌, ◌<◌, ℕ, List, length, get_or}
use Rattle.stm_state.specs.declared.state.CallState.{CallState}
use Rattle.stm_state.specs.State.{fresh}
use Rattle.stm_state.specs.Steps.{written_by}
use Rattle.scheduler.specs.Workers.{WorkerState, idle_worker}

-- each worker's list has room for at least this number of keys, and no recorded run wrote more
pub record HasKeyRoom (room : ℕ) (calls : List CallState) (workers : List WorkerState) : Type 0 where
  pub lists : (w : ℕ) → w < length workers → room ≤ (get_or workers w idle_worker).key_room
  pub runs : (i : ℕ) → length (written_by (get_or calls i fresh).last) ≤ room
