use Rattle.std.proofs.Common.{◌∙◌, ap, option_and_then, slice_get}
use Rattle.rv_step.specs.Fold.{receipts_of}
use Rattle.stm_state.specs.Done.{last_receipt}
use Rattle.stm_state.specs.State.{is_done}
use Rattle.stm_state.proofs.Orders.{in_order_at_done}
use Rattle.stm_core.specs.CoreState.{CoreState}
use Rattle.stm_core.proofs.Ended.{receipt_is}
use Rattle.stm_core.proofs.state.Core.receipt.Goals as goal

pub returns : goal.returns
returns g c =
    c.receipt_at.ensures
    ∙ ap (λ calls. option_and_then last_receipt (slice_get calls c.args.index)) c.calls.ensures
    ∙ receipt_is (g.H.JobSource.job c.self.inside.job) c.self.inside.map c.self.inside.promised c.self.inside.scheduler c.self.invariant (ap (λ (b : CoreState). is_done b.state) c.self.view_is ∙ c.requires) in_order_at_done c.args.index
    ∙ ap (λ (b : CoreState). slice_get (receipts_of b.job.block b.job.store) c.args.index) c.self.view_is
