use Rattle.std.proofs.Common.{◌≡◌, ◌≤◌, ◌-◌, length, replicate}
use Rattle.stm_state.specs.State.{fresh}
use Rattle.scheduler.proofs.calls.fresh_calls.Given as goal

abbrev pub invariant-loop-calls : goal.invariant-loop-calls
invariant-loop-calls l = record {
  within : length l.calls.items ≤ l.count;
  fresh : l.calls.items ≡ replicate (length l.calls.items) fresh;
}

abbrev pub decreases-loop-calls : goal.decreases-loop-calls
decreases-loop-calls l = l.count - length l.calls.items
