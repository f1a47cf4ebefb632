-- Steps that one worker makes one after another.
use Rattle.std.specs.Prelude.{◌≡◌, ℕ, List, Some, length, map}
use Rattle.stm_state.specs.Steps.{Step}
use Rattle.stm_state.specs.Walk.{walk}
use Rattle.stm_core.specs.CoreState.{CoreState, block_in}

-- a list of steps, each of this worker
abbrev pub steps_by : ℕ → List Step → List (ℕ × Step)
steps_by w steps = map (λ step. (w, step)) steps

-- this many steps, all of one worker, lead from a core to another of the same job and with as many workers
pub record IsLed (w made : ℕ) (old new : CoreState) : Type 0 where
  pub steps : List Step
  pub count : length steps ≡ made
  pub job : new.job ≡ old.job
  pub workers : length new.state.tasks ≡ length old.state.tasks
  pub leads : walk (block_in old) (steps_by w steps) old.state ≡ Some new.state
