-- A step leaves the number of workers.
use Rattle.std.proofs.Common.{◌<◌, ℕ, length, arith}
use Rattle.stm_state.specs.Steps.{Step}
use Rattle.stm_core.specs.CoreState.{CoreState, Makes, block_in}
use Rattle.stm_core.proofs.TaskChanges.{turn_workers}

-- a worker is one of the workers after its step too
pub stays : (w : ℕ) (step : Step) (old new : CoreState) → Makes w step old new → w < length old.state.tasks → w < length new.state.tasks
stays w step old new made within = let same = turn_workers (block_in old) w step old.state new.state made.0 in omega (arith, same, within)
