use Rattle.std.proofs.Common.{◌≡◌, ◌+◌, ◌-◌, ◌<◌, false, length}
use Rattle.debugger.specs.More.{has_changed}
use Rattle.debugger.specs.Replay.{IsLaterMoment, is_at_end}
use Rattle.debugger.proofs.replay.Replay.run_while_same.Given as goal

abbrev pub invariant-loop-self : goal.invariant-loop-self
invariant-loop-self l = record {
  going : is_at_end l.fn.self ≡ false;
  past : IsLaterMoment (has_changed l.address l.len l.before) l.fn.self l.self;
  later : l.fn.self.moment < l.self.moment;
  room : length l.now ≡ l.len;
}

-- each moment but the last has gas left
abbrev pub decreases-loop-self : goal.decreases-loop-self
decreases-loop-self l = l.self.call.gas + 1 - l.self.moment
