use Rattle.rv_step.proofs.Beginnings.{begins}
use Rattle.rv_step.proofs.run.Run.start_in.Goals as goal

pub invariant_of-result : goal.invariant_of-result
invariant_of-result c = rw (c.in_ok-copy.ensures, c.in_ok-machine.ensures, c.args.spare.none) (begins c.args.call.now)
