use Rattle.std.proofs.lemmas.Result.{on_ok_weaker}
use Rattle.session_file.proofs.Staged.{on_ok_both, session_staged, sets_still}
use Rattle.session_file.proofs.StagedIn.{stages_in}
use Rattle.session_file.proofs.file.SessionFile.stage_session.Goals as goal

pub returns : goal.returns
returns g c =
    let v = g.S.Store.view in
    rw (← c.self.view_is, c.settled.ensures.given)
    (stages_in g.S.Store _ _ _ c.self.inside.store c.put_session-result.new.store c.settled.new.store c.put_session-result.result (g.met.S.Store.shut_if_dirty c.settled.new.store) (λ l. l)
    (on_ok_both c.put_session-result.result (λ sets inside kept next was. session_staged _ _ (g.met.S.Store.shut_if_dirty c.put_session-result.new.store) kept next was c.args.session inside sets) c.put_session-result.ensures.ok c.put_session-result.ensures.limits)
    (on_ok_weaker c.put_session-result.result (λ sets clean. sets_still _ _ _ _ (sets clean)) c.put_session-result.ensures.ok)
    c.put_session-result.ensures.tries c.settled.ensures.ok c.settled.ensures.err c.settled.ensures.told c.settled.ensures.quiet)
