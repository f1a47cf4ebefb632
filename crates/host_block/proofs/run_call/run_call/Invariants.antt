use Rattle.std.proofs.Common.{◌≡◌}
use Rattle.rv_step.specs.Run.{steps_left}
use Rattle.host_block.specs.Known.{KeepsAnswers}
use Rattle.host_block.proofs.run_call.run_call.Given as goal

abbrev pub invariant-loop-key : goal.invariant-loop-key
invariant-loop-key l = record {
  touched : l.touched ≡ l.fn.touched;
  call : l.run.call ≡ l.fn.run.call;
  from : KeepsAnswers l.fn.touched.bases l.fn.touched.changes l.fn.run l.run;
}

abbrev pub decreases-loop-key : goal.decreases-loop-key
decreases-loop-key l = steps_left l.run
