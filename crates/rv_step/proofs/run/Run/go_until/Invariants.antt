use Rattle.std.proofs.Common.{◌-◌}
use Rattle.rv_step.specs.Until.{GoesUntil}
use Rattle.rv_step.proofs.run.Run.go_until.Given as goal

abbrev pub invariant-loop-made : goal.invariant-loop-made
invariant-loop-made l = GoesUntil l.stop l.most l.made l.fn.self l.self

abbrev pub decreases-loop-made : goal.decreases-loop-made
decreases-loop-made l = l.most - l.made
