use Rattle.std.proofs.Common.{List, ap, subst, ◌∙◌}
use Rattle.rv_ledger.specs.Call.{Invocation}
use Rattle.rv_ledger.specs.Applied.{apply_receipts}
use Rattle.rv_step.specs.Fold.{receipts_of}
use Rattle.rv_step.proofs.CallsInOrder.{receipts_applied}
use Rattle.workers.specs.History.{HasHistory}
use Rattle.workers.proofs.Runs.{history_is_bounded}
use Rattle.workers.proofs.executor.Executor.run_block_with.Goals as goal

pub returns-in-Ok-clause-bounded : goal.returns-in-Ok-clause-bounded
returns-in-Ok-clause-bounded g c =
    let counts = c.in_ok-receipts.field-0.counts.items in
    history_is_bounded c.work_is_bounded.ensures.lists c.args.job c.args.workers counts (subst (λ (calls : List Invocation). HasHistory (record { block = calls; store = c.args.job.store }) c.args.workers counts) c.lent.ensures c.in_ok-receipts.ensures.run.1)

pub returns-in-Ok-clause-store : goal.returns-in-Ok-clause-store
returns-in-Ok-clause-store g c =
    let calls = c.args.job.block in
    let store = c.args.job.store in
    c.in-Ok.ensures
    ∙ ap (apply_receipts store) (c.as_slice.ensures.value ∙ c.in_ok-receipts.ensures.run.0 ∙ ap (λ (calls : List Invocation). receipts_of calls store) c.lent.ensures)
    ∙ receipts_applied calls store
