use Rattle.std.proofs.Common.{◌∙◌, ap}
use Rattle.std.proofs.lemmas.Result.{IfOk-weaker}
use Rattle.stm_state.specs.State.{is_done}
use Rattle.stm_state.proofs.Orders.{in_order_at_done}
use Rattle.stm_state.proofs.Serials.{versions_at_done}
use Rattle.rv_step.specs.Fold.{receipts_of, store_after}
use Rattle.stm_core.specs.CoreState.{CoreState}
use Rattle.stm_core.proofs.Ended.{receipts_are, store_is, versions_alone}
use Rattle.stm_core.proofs.MadeSteps.{invariant_at}
use Rattle.stm_core.proofs.owned_job.Core.outcome.Goals as goal

pub outcome_of-requires-clause-versions : goal.outcome_of-requires-clause-versions
outcome_of-requires-clause-versions c = (versions_alone c.self.inside.job c.self.inside.map c.self.inside.promised c.self.inside.scheduler c.self.invariant (ap (λ (b : CoreState). is_done b.state) c.self.view_is ∙ c.requires) versions_at_done).1

pub outcome_of-requires-clause-counts : goal.outcome_of-requires-clause-counts
outcome_of-requires-clause-counts c = (invariant_at c.self.inside.job c.self.inside.map c.self.inside.promised c.self.inside.scheduler c.self.invariant).sized.counts

pub returns-clause-receipts : goal.returns-clause-receipts
returns-clause-receipts c = IfOk-weaker c.outcome_of.result _ _ (λ o h.
    h ∙ receipts_are c.self.inside.job c.self.inside.map c.self.inside.promised c.self.inside.scheduler c.self.invariant (ap (λ (b : CoreState). is_done b.state) c.self.view_is ∙ c.requires) in_order_at_done
    ∙ ap (λ (b : CoreState). receipts_of b.job.block b.job.store) c.self.view_is) c.outcome_of.ensures.receipts

pub returns-clause-store : goal.returns-clause-store
returns-clause-store c = IfOk-weaker c.outcome_of.result _ _ (λ o h.
    store_is c.self.inside.job c.self.inside.map c.self.inside.promised c.self.inside.scheduler c.self.invariant (ap (λ (b : CoreState). is_done b.state) c.self.view_is ∙ c.requires) in_order_at_done versions_at_done o.store h
    ∙ ap (λ (b : CoreState). store_after b.job.block b.job.store) c.self.view_is) c.outcome_of.ensures.store
