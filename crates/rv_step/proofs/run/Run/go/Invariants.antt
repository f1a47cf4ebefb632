use Rattle.std.proofs.Common.{◌≡◌, ◌≤◌, ℕ, false}
use Rattle.rv_step.specs.Run.{after_steps, is_running, steps_left}
use Rattle.rv_step.proofs.run.Run.go.Given as goal

abbrev pub invariant-loop-self : goal.invariant-loop-self
invariant-loop-self l = record {
  call : l.self.call ≡ l.fn.self.call;
  answers : l.self.answers ≡ l.fn.self.answers;
  fewer : steps_left l.self ≤ steps_left l.fn.self;
  steps : (n : ℕ) × (l.self ≡ after_steps n l.fn.self);
  stays : is_running l.fn.self.stage ≡ false → l.self ≡ l.fn.self;
}

abbrev pub decreases-loop-self : goal.decreases-loop-self
decreases-loop-self l = steps_left l.self
