use Rattle.std.proofs.Common.{◌≡◌, ◌-◌, ◌≤◌}
use Rattle.debugger.specs.More.{IsTowards}
use Rattle.debugger.proofs.replay.Replay.go_on_to.Given as goal

abbrev pub invariant-loop-self : goal.invariant-loop-self
invariant-loop-self l = record {
  towards : IsTowards l.moment l.fn.self l.self;
  near : l.self.moment ≤ l.moment;
  first : l.first ≡ l.fn.self.moment;
}

-- each step comes nearer
abbrev pub decreases-loop-self : goal.decreases-loop-self
decreases-loop-self l = l.moment - l.self.moment
