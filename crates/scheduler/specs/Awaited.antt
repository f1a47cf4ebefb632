-- Which calls others may be parked on; only `Scheduler`'s invariant and private functions use this.
use Rattle.std.specs.Prelude.{◌≡◌, ℕ, List, length, get_or, Bool, false, true, Some}
use Rattle.stm_state.specs.declared.state.CallState.{CallState}
use Rattle.stm_state.specs.State.{fresh}

-- there is a flag for each call; if a call names another as the one that it is parked on, the flag of that one is true
pub record IsAwaited (calls : List CallState) (awaited : List Bool) : Type 0 where
  pub flags : length awaited ≡ length calls
  pub raised : (i on : ℕ) → (get_or calls i fresh).parked ≡ Some on → get_or awaited on false ≡ true
