-- Lists of worker steps: each entry names a worker and the step that it makes.
use Rattle.std.specs.Prelude.{◌≡◌, ◌<◌, ◌↔◌, ℕ, List, [], ◌∷◌, Option, None, Some, Result, Ok, Err}
use Rattle.std.specs.List.{AllByRecursion}
use Rattle.stm_state.specs.State.{State, start_state}
use Rattle.stm_state.specs.Steps.{Block, Step, Limit, worker_step}
use Rattle.stm_state.specs.Done.{Reached}

-- the rest of a list after the result of a step; None if the step is not due or is refused
abbrev pub after_step : (State → Option State) → Option (Result State Limit) → Option State
after_step rest None = None
after_step rest (Some (Ok s)) = rest s
after_step rest (Some (Err limit)) = None

-- the state that a list leads to from a state on; None if a step of it is not due or is refused
unfoldable pub walk : Block → List (ℕ × Step) → State → Option State
walk block [] s = Some s
walk block (entry ∷ entries) s = after_step (λ t. walk block entries t) (worker_step block entry.0 entry.1 s)

-- a list leads from the start state of a block to a state, and names only workers of the block
pub record LeadsTo (block : Block) (workers : ℕ) (entries : List (ℕ × Step)) (s : State) : Type 0 where
  pub within : AllByRecursion (λ entry. entry.0 < workers) entries
  pub comes : walk block entries (start_state block.count workers) ≡ Some s

-- a state is reached exactly if some list leads to it
abbrev pub ReachedByList : Type 0
ReachedByList = (block : Block) (workers : ℕ) (s : State) → Reached block workers s ↔ ((entries : List (ℕ × Step)) × LeadsTo block workers entries s)
