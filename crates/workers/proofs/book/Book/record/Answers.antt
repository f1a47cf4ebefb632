use Rattle.std.proofs.Common.{◌<◌, ◌∙◌, ap, length, refl, subst, sym}
use Rattle.stm_state.specs.Steps.{Record}
use Rattle.stm_core.specs.declared.next_step.NextStep.TheVariants as next_step
use Rattle.workers.specs.Book.{BookState, first_fault}
use Rattle.workers.proofs.Causes.{refused_cause}
use Rattle.workers.proofs.Passings.{between, way_on}
use Rattle.workers.proofs.book.Book.record.Goals as goal

pub returns-clause-cause : goal.returns-clause-cause
returns-clause-cause g c =
    let said = c.in-Err.ensures in
    let ready = c.in_ok-ready.ensures.ready in
    refused_cause (next_step.Run c.args.call c.args.incarnation) c.args.share.now c.args.run _ c.in-Err.refused.fault said.own said.full said.limit said.memory c.args.self.now (c.self.view_is ∙ ready.3) ready.0 ready.1 c.in_ok-ready.ensures.left c.write.result
    (c.write.ensures.first ∙ ap (first_fault c.self.inside.fault) c.run_fault.ensures)

pub invariant_of-self : goal.invariant_of-self
invariant_of-self g c =
    let ready = c.in_ok-ready.ensures.ready in
    let same = c.self.view_is ∙ ready.3 in
    between g.J.JobName.job g.J.JobName.work_limit c.self.inside.work_limit c.self.inside.passed c.self.inside.fault c.args.share.now.worker Record c.self.inside.core c.record.new.self c.self.invariant
    (ap (λ (b : BookState). b.fault) same ∙ ready.1) c.in-Ok.ensures.makes (subst (λ (b : BookState). c.args.share.now.worker < length b.core.state.tasks) (sym same) ready.0.agrees.within)

pub update-requires-clause-way : goal.update-requires-clause-way
update-requires-clause-way g c =
    let ready = c.in_ok-ready.ensures.ready in
    let same = c.self.view_is ∙ ready.3 in
    way_on c.args.share.now.worker Record c.self.inside.core c.record.new.self c.self.inside.passed 0 c.self.invariant.2 c.in-Ok.ensures.makes
    (subst (λ (b : BookState). c.args.share.now.worker < length b.core.state.tasks) (sym same) ready.0.agrees.within) refl
