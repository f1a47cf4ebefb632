use Rattle.std.proofs.Common.{◌≡◌, ℕ, get_or, ap, ◌∙◌}
use Rattle.mvmap.specs.Versions.{Versions}
use Rattle.stm_state.specs.declared.state.Status.TheVariants.{Aborting}
use Rattle.stm_state.specs.declared.state.Task.TheVariants.{Idle, Marking}
use Rattle.stm_state.specs.State.{fresh, with_call, with_task}
use Rattle.stm_state.specs.Steps.{counted, after_decide, is_executed_at, keys_of, one_validation, written_by}
use Rattle.scheduler.specs.Schedule.{Schedule, state_of}
use Rattle.scheduler.proofs.Cases.{decided_late, decided_none, decided_abort}
use Rattle.scheduler.proofs.Seen.{seen_call}
use Rattle.scheduler.proofs.scheduler.Scheduler.try_abort.Goals as goal
use Rattle.scheduler.proofs.scheduler.Scheduler.try_abort.Goals.{else-failed-via-then-failed+else-is_executed_at, else-failed-via-else-failed}

pub returns-then-is_executed_at-clause-state : goal.returns-then-is_executed_at-clause-state
returns-then-is_executed_at-clause-state c =
    let w = c.args.worker in
    let i = c.args.call in
    let n = c.args.incarnation in
    let test = seen_call (is_executed_at n) i c.count_validation.ensures c.call.ensures c.is_executed_at.ensures ∙ c.if-is_executed_at.true in
    λ v p. c.begin_abort.ensures.state v p
    ∙ ap (λ (t : Schedule). with_task w (Marking i (keys_of (written_by (get_or t.calls i fresh).last))) (with_call i (record (get_or t.calls i fresh) { status = Aborting }) (state_of v p t))) c.count_validation.ensures
    ∙ ap (counted one_validation w) (decided_abort w (state_of v p c.args.self.now) i n c.args.failed c.if-failed.true test)

pub returns-else-failed-clause-state : goal.returns-else-failed-clause-state
returns-else-failed-clause-state c =
    let w = c.args.worker in
    let i = c.args.call in
    let n = c.args.incarnation in
    let rests : (v : Versions) (p : ℕ) → with_task w Idle (state_of v p c.args.self.now) ≡ after_decide w i n c.args.failed (state_of v p c.args.self.now) =
    elim c.else-failed.branch [
      | else-failed-via-then-failed+else-is_executed_at b ↦ λ v p.
          decided_late w (state_of v p c.args.self.now) i n c.args.failed b.if-failed.true
          (seen_call (is_executed_at n) i c.count_validation.ensures b.call.ensures b.is_executed_at.ensures ∙ b.if-is_executed_at.false)
      | else-failed-via-else-failed b ↦ λ v p. decided_none w (state_of v p c.args.self.now) i n c.args.failed b.if-failed.false
    ] in
    λ v p. c.begin.ensures.state v p
    ∙ ap (λ (t : Schedule). with_task w Idle (state_of v p t)) c.count_validation.ensures
    ∙ ap (counted one_validation w) (rests v p)
