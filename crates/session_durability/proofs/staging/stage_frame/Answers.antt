use Rattle.std.proofs.Common.{Err, refl}
use Rattle.std.proofs.lemmas.Result.{err_from_is_err_and, on_err_weaker, on_ok_weaker}
use Rattle.session_durability.proofs.Stagings.{answer_beyond, frame_beyond, spared, spared_after, spared_far, staged_after, staged_as, staged_both, staged_frame}
use Rattle.session_durability.proofs.staging.stage_frame.Goals as goal

pub returns-in_err-stage_run : goal.returns-in_err-stage_run
returns-in_err-stage_run g c =
    let p = err_from_is_err_and c.from_residual.result c.from_residual.ensures.1 in
    rw (p.1, p.2) (staged_as g.S.Store (Err c.in_err-stage_run.field-0.0) tt (spared c.args.settings c.args.state.now (g.S.Store.view c.args.file.now) (g.S.Store.view c.stage_run.new.file) c.in_err-stage_run.ensures.err) (λ none. absurd none) c.in_err-stage_run.ensures)

pub returns-in_err-stage_session : goal.returns-in_err-stage_session
returns-in_err-stage_session g c =
    let p = err_from_is_err_and c.from_residual-in_err-stage_session.result c.from_residual-in_err-stage_session.ensures.1 in
    rw (p.1, p.2) (staged_after g.S.Store (Err c.in_err-stage_session.field-0.0) tt
    (spared_after c.args.settings c.args.state.now (g.S.Store.view c.args.file.now) _ _ (g.S.Store.view c.stage_run.new.file) (g.S.Store.view c.stage_session.new.self)
    (λ last k keeps. keeps.storage) (c.in_ok-stage_run.ensures.ok c.args.state.now refl) c.in_err-stage_session.ensures.err)
    (frame_beyond c.args.settings c.args.state.now c.args.frame.now c.in-Some.digest c.row_of.result c.rules_after-rules.result c.in-Some.is c.row_of.ensures c.rules_after-rules.ensures) c.in_ok-stage_run.ensures c.in_err-stage_session.ensures)

pub returns : goal.returns
returns g c =
    staged_after g.S.Store c.stage_kept.result
    (on_ok_weaker c.stage_kept.result (staged_frame c.args.settings c.args.state.now (g.S.Store.view c.args.file.now) c.args.frame.now c.in-Some.digest c.row_of.result c.rules_after-rules.result
    (g.S.Store.view c.stage_run.new.file) (g.S.Store.view c.stage_session.new.self) (g.S.Store.view c.stage_kept.new.file)
    c.in-Some.is c.row_of.ensures c.rules_after-rules.ensures c.in_ok-stage_run.ensures.ok c.in_ok-stage_session.ensures.ok) c.stage_kept.ensures.ok)
    (on_err_weaker c.stage_kept.result (spared_far c.args.settings c.args.state.now (g.S.Store.view c.args.file.now) _ _ _ (g.S.Store.view c.stage_run.new.file) (g.S.Store.view c.stage_session.new.self) (g.S.Store.view c.stage_kept.new.file)
    (λ last k keeps. keeps.storage) (c.in_ok-stage_run.ensures.ok c.args.state.now refl) c.in_ok-stage_session.ensures.ok) c.stage_kept.ensures.err)
    (answer_beyond c.args.settings c.args.state.now c.args.frame.now) (staged_both g.S.Store c.in_ok-stage_run.ensures c.in_ok-stage_session.ensures) c.stage_kept.ensures
