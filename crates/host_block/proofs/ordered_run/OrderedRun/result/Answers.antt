use Rattle.host_block.proofs.InOrder.{are_results}
use Rattle.host_block.proofs.ordered_run.OrderedRun.result.Goals as goal

pub returns-in-Some : goal.returns-in-Some
returns-in-Some c =
    are_results c.self.inside.parts c.self.inside.asked c.args.self.now c.in-Some.changes c.as_slice.result.now c.as_slice-in-Some.result.now c.self.invariant.0 c.self.view_is c.in-Some.is
    c.as_slice.ensures.value c.as_slice-in-Some.ensures.value
