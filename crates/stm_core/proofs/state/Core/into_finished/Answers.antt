use Rattle.std.proofs.Common.{◌∙◌, ap}
use Rattle.std.proofs.lemmas.Result.{IfOk-weaker}
use Rattle.stm_state.specs.State.{is_done}
use Rattle.stm_state.proofs.Orders.{in_order_at_done}
use Rattle.rv_step.specs.Fold.{receipts_of}
use Rattle.stm_core.specs.CoreState.{CoreState}
use Rattle.stm_core.proofs.Ended.{receipts_are}
use Rattle.stm_core.proofs.MadeSteps.{invariant_at}
use Rattle.stm_core.proofs.state.Core.into_finished.Goals as goal

pub finished_of-finished-requires : goal.finished_of-finished-requires
finished_of-finished-requires g c = (invariant_at (g.H.JobSource.job c.self.inside.job) c.self.inside.map c.self.inside.promised c.self.inside.scheduler c.self.invariant).sized.counts

pub returns-clause-receipts : goal.returns-clause-receipts
returns-clause-receipts g c = IfOk-weaker c.finished_of-finished.result _ _ (λ o h.
    h ∙ receipts_are (g.H.JobSource.job c.self.inside.job) c.self.inside.map c.self.inside.promised c.self.inside.scheduler c.self.invariant (ap (λ (b : CoreState). is_done b.state) c.self.view_is ∙ c.requires) in_order_at_done
    ∙ ap (λ (b : CoreState). receipts_of b.job.block b.job.store) c.self.view_is) c.finished_of-finished.ensures.receipts
