use Rattle.std.proofs.Common.{◌≡◌, ◌<◌, ◌++◌, ℕ, Some, true, get_or, map, take, drop}
use Rattle.stm_state.specs.State.{fresh}
use Rattle.stm_state.specs.Steps.{least_parked_call, resume_if_parked}
use Rattle.scheduler.proofs.calls.resume_parked.Given as goal

abbrev pub invariant-loop-index : goal.invariant-loop-index
invariant-loop-index l = record {
  number : l.number ≡ l.index;
  calls : l.calls.items ≡ map (resume_if_parked l.on) (take l.index l.fn.calls.items) ++ drop l.index l.fn.calls.items;
  lowest : least_parked_call l.on l.execution l.index (drop l.index l.fn.calls.items) ≡ least_parked_call l.on l.fn.execution 0 l.fn.calls.items;
  named : (i : ℕ) → i < l.index → (get_or l.calls.items i fresh).parked ≡ Some l.on → l.named ≡ true;
}
