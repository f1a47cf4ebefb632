-- The `Ask` steps that are answered Done.
use Rattle.std.specs.Prelude.{◌≡◌, ◌≢◌, ◌<◌, ◌+◌, ℕ, true, if◌then◌else◌, List, ◌∷◌, ◌++◌, length, get_or, Some, Ok}
use Rattle.std.specs.List.{AllByRecursion}
use Rattle.stm_state.specs.State.{State, is_done}
use Rattle.stm_state.specs.Steps.{Block, Step, Ask, worker_step}
use Rattle.stm_state.specs.Walk.{LeadsTo}

-- the number of a worker's `Ask` steps that were answered Done
abbrev pub dones_of : ℕ → State → ℕ
dones_of w s = get_or s.dones w 0

-- ---- a step

-- once workers are done, each step that is made is an `Ask` step
abbrev pub DoneIsAsked : Type 0
DoneIsAsked = (block : Block) (w : ℕ) (step : Step) (s t : State) → is_done s ≡ true → worker_step block w step s ≡ Some (Ok t) → step ≡ Ask

-- once workers are done, they are still done after each step that is made
abbrev pub DoneStays : Type 0
DoneStays = (block : Block) (w : ℕ) (step : Step) (s t : State) → is_done s ≡ true → worker_step block w step s ≡ Some (Ok t) → is_done t ≡ true

-- a step does not change the numbers of the other workers
abbrev pub OtherDonesStay : Type 0
OtherDonesStay = (block : Block) (w : ℕ) (step : Step) (s t : State) → worker_step block w step s ≡ Some (Ok t) → (u : ℕ) → u ≢ w → dones_of u t ≡ dones_of u s

-- a step that is not an `Ask` step does not change its own worker's number
abbrev pub DonesAreAsked : Type 0
DonesAreAsked = (block : Block) (w : ℕ) (step : Step) (s t : State) → worker_step block w step s ≡ Some (Ok t) → step ≢ Ask → dones_of w t ≡ dones_of w s

-- an `Ask` step adds one to its own worker's number if workers are done, and nothing otherwise
abbrev pub DonesGrowAtDone : Type 0
DonesGrowAtDone = (block : Block) (w : ℕ) (s t : State) → worker_step block w Ask s ≡ Some (Ok t) → w < length s.dones → dones_of w t ≡ (if is_done s then dones_of w s + 1 else dones_of w s)

-- ---- a list of steps

-- the last entry of a worker in a list is an `Ask` step answered Done; `earlier` of its `Ask` steps before it were answered Done
pub record EndsAtDone (block : Block) (workers w : ℕ) (entries : List (ℕ × Step)) (earlier : ℕ) : Type 0 where
  -- the entries before it lead to a state in which workers are done; none of the entries after it is the worker's
  pub before : List (ℕ × Step)
  pub after : List (ℕ × Step)
  pub split : entries ≡ before ++ (w, Ask) ∷ after
  pub state : State
  pub leads : LeadsTo block workers before state
  pub done : is_done state ≡ true
  pub dones_before : dones_of w state ≡ earlier
  pub alone : AllByRecursion (λ entry. entry.0 ≢ w) after

-- let a list lead to a state in which some `Ask` step of a worker was answered Done. Then the worker's last entry is such a step,
-- and all its other such steps come before it
abbrev pub LastEntryIsDone : Type 0
LastEntryIsDone = (block : Block) (workers : ℕ) (entries : List (ℕ × Step)) (t : State) (w earlier : ℕ) → LeadsTo block workers entries t → dones_of w t ≡ earlier + 1 → EndsAtDone block workers w entries earlier
