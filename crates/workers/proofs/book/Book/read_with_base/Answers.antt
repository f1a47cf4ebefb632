use Rattle.std.proofs.Common.{◌≡◌, ◌<◌, ◌∙◌, ap, length, subst, sym}
use Rattle.mvmap.specs.Reading.{reading}
use Rattle.stm_state.specs.State.{State, task_at}
use Rattle.stm_state.specs.Steps.{ReadKey}
use Rattle.stm_core.specs.CoreState.{index_run, next_step_of}
use Rattle.stm_core.specs.declared.next_step.NextStep.TheVariants as next_step
use Rattle.workers.specs.Book.{BookState}
use Rattle.workers.proofs.Passings.{between, runs_index, same_state, way_on}
use Rattle.workers.proofs.book.Book.read_with_base.Goals as goal

pub invariant_of-self-2 : goal.invariant_of-self-2
invariant_of-self-2 g c =
    let ready = c.in_ok-ready.ensures.ready in
    let same = c.self.view_is ∙ ready.3 in
    let none = ap (λ (b : BookState). b.fault) same ∙ ready.1 in
    let core = c.room_for_read.new.self in
    let was = same_state g.J.JobName.job g.J.JobName.work_limit c.self.inside.work_limit c.self.inside.passed c.self.inside.fault c.self.inside.core core c.self.invariant none c.room_for_read.ensures.job c.room_for_read.ensures.state in
    let state : core.state ≡ c.args.self.now.core.state = c.room_for_read.ensures.state ∙ ap (λ (b : BookState). b.core.state) same in
    between g.J.JobName.job g.J.JobName.work_limit c.self.inside.work_limit c.self.inside.passed c.self.inside.fault c.args.share.now.worker (ReadKey c.args.key.now) core c.read_sharing-answer.new.self was none c.read_sharing-answer.ensures.makes
    (subst (λ (s : State). c.args.share.now.worker < length s.tasks) (sym state) ready.0.agrees.within)

pub update-requires-clause-way : goal.update-requires-clause-way
update-requires-clause-way g c =
    let ready = c.in_ok-ready.ensures.ready in
    let same = c.self.view_is ∙ ready.3 in
    let none = ap (λ (b : BookState). b.fault) same ∙ ready.1 in
    let w = c.args.share.now.worker in
    let core = c.room_for_read.new.self in
    let was = same_state g.J.JobName.job g.J.JobName.work_limit c.self.inside.work_limit c.self.inside.passed c.self.inside.fault c.self.inside.core core c.self.invariant none c.room_for_read.ensures.job c.room_for_read.ensures.state in
    let state : core.state ≡ c.args.self.now.core.state = c.room_for_read.ensures.state ∙ ap (λ (b : BookState). b.core.state) same in
    let owed : next_step_of core.state (task_at core.state w) ≡ next_step.Run c.args.call c.args.incarnation = ap (λ (s : State). next_step_of s (task_at s w)) state ∙ ready.0.owed in
    let i = index_run (task_at core.state w) in
    way_on w (ReadKey c.args.key.now) core c.read_sharing-answer.new.self c.self.inside.passed c.passed_by_answer.result was.2 c.read_sharing-answer.ensures.makes
    (subst (λ (s : State). w < length s.tasks) (sym state) ready.0.agrees.within)
    (c.passed_by_answer.ensures core.job.store c.args.key.now (reading core.state.versions c.args.key.now i) (c.read_sharing-answer.ensures.answers i (runs_index core.state (task_at core.state w) c.args.call c.args.incarnation owed)))
