-- How far a state is from the limits of a run, and a number of entries that is enough from there.
use Rattle.std.specs.Prelude.{◌≡◌, ◌<◌, ◌≤◌, ◌+◌, ◌*◌, ◌/◌, ℕ, List, Some, slice_get}
use Rattle.rv_ledger.specs.Call.{Invocation}
use Rattle.stm_state.specs.Limits.{record_limit, incarnation_limit}
use Rattle.stm_state.specs.State.{State, call_at}

-- no call has more gas
abbrev pub HasAtMostGas : ℕ → List Invocation → Type 0
HasAtMostGas gas calls = (i : ℕ) (call : Invocation) → slice_get calls i ≡ Some call → call.gas ≤ gas

-- a state is far from the limits: the arena has room for two runs of each worker and one of each call, of 256 writes each; and no
-- incarnation reaches the limit if it grows by two for each worker and by two more
pub record IsFarFromLimits (count workers : ℕ) (s : State) : Type 0 where
  pub room : s.record_count + 256 * (2 * workers + count) ≤ record_limit
  pub low : (i : ℕ) → (call_at s i).incarnation + (2 * workers + 2) < incarnation_limit

-- a number of entries that is enough for this many workers and calls; a read of the storage takes 200 gas
abbrev pub entries_to_end : (workers count gas : ℕ) → ℕ
entries_to_end workers count gas = (workers + 2 * count) * (4 * (gas / 200) + 1300)
