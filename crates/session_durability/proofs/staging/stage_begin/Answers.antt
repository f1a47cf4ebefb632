use Rattle.std.proofs.Common.{Err}
use Rattle.std.proofs.lemmas.Result.{err_from_is_err_and, on_err_weaker, on_ok_weaker}
use Rattle.session_durability.proofs.Stagings.{begin_beyond, spared, spared_after, spared_far, staged_after, staged_as, staged_begin, staged_both}
use Rattle.session_durability.proofs.staging.stage_begin.Goals as goal

pub returns-in_err-stage_storage : goal.returns-in_err-stage_storage
returns-in_err-stage_storage g c =
    let p = err_from_is_err_and c.from_residual.result c.from_residual.ensures.1 in
    rw (p.1, p.2) (staged_as g.S.Store (Err c.in_err-stage_storage.field-0.0) tt (spared c.args.settings c.args.state.now (g.S.Store.view c.args.file.now) (g.S.Store.view c.stage_storage.new.self) c.in_err-stage_storage.ensures.err) (λ none. absurd none) c.in_err-stage_storage.ensures)

pub returns-in_err-stage_session : goal.returns-in_err-stage_session
returns-in_err-stage_session g c =
    let p = err_from_is_err_and c.from_residual-in_err-stage_session.result c.from_residual-in_err-stage_session.ensures.1 in
    rw (p.1, p.2) (staged_after g.S.Store (Err c.in_err-stage_session.field-0.0) tt
    (spared_after c.args.settings c.args.state.now (g.S.Store.view c.args.file.now) _ _ (g.S.Store.view c.stage_storage.new.self) (g.S.Store.view c.stage_session.new.self)
    (λ last k keeps. keeps.storage) c.in_ok-stage_storage.ensures.ok c.in_err-stage_session.ensures.err)
    (begin_beyond c.args.settings c.args.state.now c.args.begin.now c.in-Some.digest c.row_of.result c.in-Some.is c.row_of.ensures) c.in_ok-stage_storage.ensures c.in_err-stage_session.ensures)

pub returns : goal.returns
returns g c =
    staged_after g.S.Store c.stage_no_answer.result
    (on_ok_weaker c.stage_no_answer.result (staged_begin c.args.settings c.args.state.now (g.S.Store.view c.args.file.now) c.args.begin.now c.in-Some.digest c.row_of.result
    (g.S.Store.view c.stage_storage.new.self) (g.S.Store.view c.stage_session.new.self) (g.S.Store.view c.stage_no_answer.new.self)
    c.in-Some.is c.row_of.ensures c.in_ok-stage_storage.ensures.ok c.in_ok-stage_session.ensures.ok) c.stage_no_answer.ensures.ok)
    (on_err_weaker c.stage_no_answer.result (spared_far c.args.settings c.args.state.now (g.S.Store.view c.args.file.now) _ _ _ (g.S.Store.view c.stage_storage.new.self) (g.S.Store.view c.stage_session.new.self) (g.S.Store.view c.stage_no_answer.new.self)
    (λ last k keeps. keeps.storage) c.in_ok-stage_storage.ensures.ok c.in_ok-stage_session.ensures.ok) c.stage_no_answer.ensures.err)
    (λ none. absurd none) (staged_both g.S.Store c.in_ok-stage_storage.ensures c.in_ok-stage_session.ensures) c.stage_no_answer.ensures
