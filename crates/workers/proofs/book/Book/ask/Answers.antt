use Rattle.std.proofs.Common.{◌≡◌, ◌<◌, true, length, refl, sym, ap, subst, ◌∙◌, inl, inr}
use Rattle.stm_state.specs.State.{is_done, task_at}
use Rattle.stm_state.specs.Steps.{Ask}
use Rattle.stm_core.specs.CoreState.{CoreState, block_in, next_step_of}
use Rattle.workers.specs.Book.{BookState, IsAsked, AgreesWith}
use Rattle.workers.proofs.AskResults.{done_where_answered, not_done_where_answered, one_done_more, no_done_more}
use Rattle.workers.proofs.Passings.{between, way_on}
use Rattle.workers.proofs.book.Book.ask.Goals as goal
use Rattle.workers.proofs.book.Book.ask.Goals.{in-Done, in-Nothing}

pub returns-clause-asked : goal.returns-clause-asked
returns-clause-asked g c =
    let b = c.args.self.now in
    let w = c.args.share.now.worker in
    let ready = c.in_ok-ready.ensures.ready in
    let made = c.ask-answer.ensures in
    let old = c.self.inside.core in
    let new = c.ask-answer.new.self in
    let task = task_at new.state w in
    let same : old ≡ b.core = ap (λ (x : BookState). x.core) (c.self.view_is ∙ ready.3) in
    let is : c.update.new.self.core ≡ new = ap (λ (x : BookState). x.core) c.update.ensures.counted in
    let now : c.self-2.inside.core ≡ new = ap (λ (x : BookState). x.core) (c.self-2.view_is ∙ c.update.ensures.counted) in
    let counted : AgreesWith c.args.share.now old = subst (λ (x : CoreState). AgreesWith c.args.share.now x) (sym same) ready.0.agrees in
    let before : is_done old.state ≡ is_done b.core.state = ap (λ (x : CoreState). is_done x.state) same in
    subst (λ (x : CoreState). IsAsked c.match-answer.result b.core x c.args.share.now c.update.new.share) (sym is) (elim c.match-answer.branch [
      | in-Done x ↦ (
          let done = done_where_answered (is_done old.state) task (sym x.in-Done.is ∙ made.answer) in
          subst (λ r. IsAsked r b.core new c.args.share.now c.update.new.share) (sym x.result-is)
          (sym before ∙ done, c.done_stays.ensures.done (block_in old) w Ask old.state new.state done made.makes.0, one_done_more c.dones_grow_at_done.ensures.askings old new c.args.share.now c.update.new.share made.makes c.holds.ensures.sized counted c.update.ensures.agrees c.update.ensures.worker done))
      | in-Nothing x ↦ (
          let not = not_done_where_answered (is_done old.state) task c.ask-answer.result made.answer (λ e. elim x.in-Nothing.is [ inl n ↦ cc | inr n ↦ cc ]) in
          subst (λ r. IsAsked r b.core new c.args.share.now c.update.new.share) (sym x.result-is) (
            sym before ∙ not,
            no_done_more c.dones_grow_at_done.ensures.askings old new c.args.share.now c.update.new.share made.makes c.holds.ensures.sized counted c.update.ensures.agrees c.update.ensures.worker not,
            subst (λ v. x.doing.result ≡ next_step_of new.state (task_at new.state v)) c.update.ensures.worker
                (subst (λ (k : CoreState). x.doing.result ≡ next_step_of k.state (task_at k.state c.update.new.share.worker)) now x.doing.ensures.doing),
          ))
    ])

pub of-requires : goal.of-requires
of-requires g c =
    let made = c.ask-answer.ensures in
    let old = c.self.inside.core in
    let new = c.ask-answer.new.self in
    subst (λ (x : CoreState). is_done x.state ≡ true) (sym (ap (λ (x : BookState). x.core) (c.self-2.view_is ∙ c.update.ensures.counted)))
    (c.done_stays.ensures.done (block_in old) c.args.share.now.worker Ask old.state new.state (done_where_answered (is_done old.state) (task_at new.state c.args.share.now.worker) (sym c.in-Done.is ∙ made.answer)) made.makes.0)

pub invariant_of-self : goal.invariant_of-self
invariant_of-self g c =
    let ready = c.in_ok-ready.ensures.ready in
    let same = c.self.view_is ∙ ready.3 in
    between g.J.JobName.job g.J.JobName.work_limit c.self.inside.work_limit c.self.inside.passed c.self.inside.fault c.args.share.now.worker Ask c.self.inside.core c.ask-answer.new.self c.self.invariant
    (ap (λ (b : BookState). b.fault) same ∙ ready.1) c.ask-answer.ensures.makes (subst (λ (b : BookState). c.args.share.now.worker < length b.core.state.tasks) (sym same) ready.0.agrees.within)

pub update-requires-clause-way : goal.update-requires-clause-way
update-requires-clause-way g c =
    let ready = c.in_ok-ready.ensures.ready in
    let same = c.self.view_is ∙ ready.3 in
    way_on c.args.share.now.worker Ask c.self.inside.core c.ask-answer.new.self c.self.inside.passed 0 c.self.invariant.2 c.ask-answer.ensures.makes
    (subst (λ (b : BookState). c.args.share.now.worker < length b.core.state.tasks) (sym same) ready.0.agrees.within) refl
