use Rattle.std.specs.Arc.{arc_value}
use Rattle.rv_step.specs.declared.stage.Stage.TheVariants.{Ended}
use Rattle.rv_step.specs.Over.{IsBeginningOver}
use Rattle.rv_step.proofs.ProgramSteps.{over_code}
use Rattle.rv_step.proofs.StorageRuns.{ended_over, starts_over}
use Rattle.rv_step.proofs.over.receipt_over.Goals as goal

pub loop-program-init : goal.loop-program-init
loop-program-init g c = rw c.in_ok-machine.ensures (starts_over c.args.call.now (g.S.Contents.storage c.args.store.now))

pub go_on_over-requires-clause-code : goal.go_on_over-requires-clause-code
go_on_over-requires-clause-code g c =
    rw (c.deref-program.ensures, c.deref_mut.ensures.value)
    (over_code (arc_value c.base.result.now) c.args.call.now (g.S.Contents.storage c.args.store.now) c.loop-program.machine.value c.loop-program.stage c.loop-program.invariant (rw c.image.ensures at c.base.ensures))

pub loop-program-preserved : goal.loop-program-preserved
loop-program-preserved g c = c.in_ok-go_on_over.ensures.over c.args.call.now (rw c.deref_mut.ensures.value c.loop-program.invariant)

pub returns : goal.returns
returns g c =
    let over : IsBeginningOver c.args.call.now (g.S.Contents.storage c.args.store.now) c.loop-program.machine.value (Ended c.in-Ended.end c.in-Ended.out) = rw c.in-Ended.is at c.loop-program.invariant in
    rw (c.receipt-receipt.ensures, c.deref_mut-in-Ended.ensures.value, c.gas.ensures.value) (ended_over c.args.call.now (g.S.Contents.storage c.args.store.now) c.loop-program.machine.value c.in-Ended.end c.in-Ended.out over)
