use Rattle.std.proofs.Common.{◌<◌, ◌∙◌, ap, length, subst, sym}
use Rattle.stm_core.specs.CoreState.{step_of}
use Rattle.stm_core.specs.Passed.{passed_by_step}
use Rattle.workers.specs.Book.{BookState}
use Rattle.workers.proofs.Passings.{between, way_on}
use Rattle.workers.proofs.book.Book.make_owed.Goals as goal

pub invariant_of-self : goal.invariant_of-self
invariant_of-self g c =
    let ready = c.in_ok-ready.ensures.ready in
    let same = c.self.view_is ∙ ready.3 in
    between g.J.JobName.job g.J.JobName.work_limit c.self.inside.work_limit c.self.inside.passed c.self.inside.fault c.args.share.now.worker (step_of c.args.kind) c.self.inside.core c.make.new.self c.self.invariant
    (ap (λ (b : BookState). b.fault) same ∙ ready.1) c.in-Ok.ensures.makes (subst (λ (b : BookState). c.args.share.now.worker < length b.core.state.tasks) (sym same) ready.0.agrees.within)

pub update-requires-clause-way : goal.update-requires-clause-way
update-requires-clause-way g c =
    let ready = c.in_ok-ready.ensures.ready in
    let same = c.self.view_is ∙ ready.3 in
    way_on c.args.share.now.worker (step_of c.args.kind) c.self.inside.core c.make.new.self c.self.inside.passed c.passed_by-passed.result c.self.invariant.2 c.in-Ok.ensures.makes
    (subst (λ (b : BookState). c.args.share.now.worker < length b.core.state.tasks) (sym same) ready.0.agrees.within)
    (c.passed_by-passed.ensures ∙ ap (λ (b : BookState). passed_by_step c.args.share.now.worker (step_of c.args.kind) b.core.state) (sym c.self.view_is))
