use Rattle.std.proofs.Common.{◌+◌, ◌-◌}
use Rattle.debugger.specs.ReplayMoment.{IsReplay}
use Rattle.debugger.proofs.ending.run_to_end.Given as goal

abbrev pub invariant-loop-alloc : goal.invariant-loop-alloc
invariant-loop-alloc l = IsReplay l.call l.store l.run l.moment

-- each moment but the last has gas left
abbrev pub decreases-loop-alloc : goal.decreases-loop-alloc
decreases-loop-alloc l = l.call.gas + 1 - l.moment
