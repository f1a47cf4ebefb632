-- Steps of a run up to a pc.
use Rattle.std.specs.Prelude.{◌≡◌, ℕ, ◌<◌, ◌≤◌, ◌==◌, ◌||◌, Bool, false, not, Option, Some, None}
use Rattle.rv_step.specs.Run.{RunView, after_steps, is_running}

-- the pc is the one to stop at, if there is one
abbrev pub is_at : Option ℕ → ℕ → Bool
is_at (Some stop) pc = pc == stop
is_at None pc = false

-- a run stops if it can make no step, or if its pc is the one to stop at
abbrev pub stops_at : Option ℕ → RunView → Bool
stops_at stop r = not (is_running r.stage) || is_at stop r.machine.pc

-- a run made steps: one at least, `most` at most, and it stops at no moment between the first and the last
pub record GoesUntil (stop : Option ℕ) (most made : ℕ) (old new : RunView) : Type 0 where
  pub steps : new ≡ after_steps made old
  pub some : 0 < made
  pub within : made ≤ most
  pub between : (n : ℕ) → 0 < n → n < made → stops_at stop (after_steps n old) ≡ false
