use Rattle.std.proofs.Common.{◌≡◌, ◌+◌, ◌-◌, ◌<◌, false}
use Rattle.debugger.specs.Replay.{IsLaterMoment, has_pc, is_at_end}
use Rattle.debugger.proofs.replay.Replay.run_to.Given as goal

abbrev pub invariant-loop-self : goal.invariant-loop-self
invariant-loop-self l = record {
  going : is_at_end l.fn.self ≡ false;
  past : IsLaterMoment (has_pc l.pc) l.fn.self l.self;
  later : l.fn.self.moment < l.self.moment;
}

-- each moment but the last has gas left
abbrev pub decreases-loop-self : goal.decreases-loop-self
decreases-loop-self l = l.self.call.gas + 1 - l.self.moment
