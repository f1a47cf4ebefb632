use Rattle.std.proofs.Common.{◌-◌, ◌≤◌}
use Rattle.rv_step.specs.Moment.{moment_over}
use Rattle.debugger.specs.ReplayMoment.{IsRunAt}
use Rattle.debugger.proofs.running.run_after.Given as goal

abbrev pub invariant-loop-made : goal.invariant-loop-made
invariant-loop-made l = record {
  stands : IsRunAt (moment_over l.call l.store l.made) l.run;
  within : l.made ≤ l.steps;
}

abbrev pub decreases-loop-made : goal.decreases-loop-made
decreases-loop-made l = l.steps - l.made
