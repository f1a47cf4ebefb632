use Rattle.std.proofs.Common.{◌≡◌}
use Rattle.rv_step.specs.Chain.{AreFrom}
use Rattle.rv_step.specs.Replies.{replies_of}
use Rattle.rv_step.specs.Run.{IsPause, steps_left}
use Rattle.conflicts.proofs.reading.run_answered.Given as goal

abbrev pub invariant-loop-pause : goal.invariant-loop-pause
invariant-loop-pause l = record {
  call : l.run.call ≡ l.fn.call;
  from : AreFrom l.store (replies_of l.run.answers);
  pause : IsPause l.pause l.run.stage;
}

abbrev pub decreases-loop-pause : goal.decreases-loop-pause
decreases-loop-pause l = steps_left l.run
