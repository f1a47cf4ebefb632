-- Lists of worker numbers that lead from a state to the end of a job.
use Rattle.std.specs.Prelude.{◌≡◌, ◌≤◌, ◌++◌, ℕ, List, length, Ok, Err}
use Rattle.rv_ledger.specs.Key.{Storage}
use Rattle.rv_ledger.specs.Call.{Invocation}
use Rattle.stm_state.specs.State.{State}
use Rattle.stm_state.specs.Steps.{Limit}
use Rattle.stm_state.specs.Drive.{Limited, driven, drive_of}

-- some list leads from this state to one in which workers are done, or one of its steps is refused for a limit
pub data CanEnd (calls : List Invocation) (store : Storage) (workers : ℕ) (s : State) : Type 0 where
  ends : (list : List ℕ) (t : State) → driven calls store workers list s ≡ Ok t → CanEnd calls store workers s
  meets : (list : List ℕ) (limit : Limit) → driven calls store workers list s ≡ Err (Limited limit) → CanEnd calls store workers s

-- some list of at most `most` entries leads from this state to one in which workers are done
pub record EndsWithin (most : ℕ) (calls : List Invocation) (store : Storage) (workers : ℕ) (s : State) : Type 0 where
  pub list : List ℕ
  pub short : length list ≤ most
  pub state : State
  pub ends : driven calls store workers list s ≡ Ok state

-- a list of a job is continued to the end, or to a step that is refused for a limit
pub data IsContinued (calls : List Invocation) (store : Storage) (workers : ℕ) (schedule : List ℕ) : Type 0 where
  to_end : (more : List ℕ) (t : State) → drive_of calls store workers (schedule ++ more) ≡ Ok t → IsContinued calls store workers schedule
  to_limit : (more : List ℕ) (limit : Limit) → drive_of calls store workers (schedule ++ more) ≡ Err (Limited limit) → IsContinued calls store workers schedule
