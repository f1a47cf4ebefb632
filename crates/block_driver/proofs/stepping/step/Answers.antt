use Rattle.std.proofs.Common.{arith, inl, refl}
use Rattle.block_driver.specs.declared.fault.StepFault.TheVariants as fault
use Rattle.block_driver.proofs.Stepped.{refused_at_once}
use Rattle.block_driver.proofs.stepping.step.Goals as goal

pub returns-then-worker-workers-clause-stepped : goal.returns-then-worker-workers-clause-stepped
returns-then-worker-workers-clause-stepped g c =
    let has = c.args.worker.now.progress in
    let past = c.if-worker-workers.true in
    let count = c.workers.ensures in
    refused_at_once c.args.worker.now.number c.args.most has has c.args.core.now c.args.core.now fault.Foreign refl refl (inl (λ within. omega (arith, within, past, count)))
