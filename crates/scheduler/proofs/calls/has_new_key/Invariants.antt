use Rattle.std.proofs.Common.{◌≡◌, false, not, take}
use Rattle.std.specs.List.{list_any}
use Rattle.std.specs.FinMap.{entries}
use Rattle.stm_state.specs.Steps.{wrote}
use Rattle.scheduler.proofs.calls.has_new_key.Given as goal

abbrev pub invariant-loop-key : goal.invariant-loop-key
invariant-loop-key l = list_any (λ write. not (wrote l.last write.0)) (take l.key-index (entries l.writes)) ≡ false
