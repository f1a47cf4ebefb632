use Rattle.std.proofs.Common.{refl, ap}
use Rattle.host_block.specs.Slots.{TouchedView}
use Rattle.host_block.proofs.InOrder.{starts}
use Rattle.host_block.proofs.ordered_run.OrderedRun.new.Goals as goal

pub invariant_of-result : goal.invariant_of-result
invariant_of-result c = (starts _ c.new.ensures.items refl (ap (λ (t : TouchedView). t.changes) c.new-2.ensures) refl refl, tt)
