use Rattle.rv_step.specs.Over.{IsBeginningOver}
use Rattle.rv_step.specs.Run.{left_for}
use Rattle.rv_step.proofs.over.receipt_over.Given as goal

abbrev pub invariant-loop-program : goal.invariant-loop-program
invariant-loop-program g l = IsBeginningOver l.call (g.S.Contents.storage l.store) l.machine.value l.stage

abbrev pub decreases-loop-program : goal.decreases-loop-program
decreases-loop-program g l = left_for l.machine.value.gas l.stage
