use Rattle.std.proofs.lemmas.Result.{on_ok_weaker}
use Rattle.session_file.proofs.Staged.{no_answer_staged, sets_still}
use Rattle.session_file.proofs.StagedIn.{stages_in}
use Rattle.session_file.proofs.file.SessionFile.stage_no_answer.Goals as goal

pub returns : goal.returns
returns g c =
    let v = g.S.Store.view in
    rw (← c.self.view_is, c.settled.ensures.given)
    (stages_in g.S.Store _ _ _ c.self.inside.store c.clear_answer-result.new.store c.settled.new.store c.clear_answer-result.result (g.met.S.Store.shut_if_dirty c.settled.new.store) (λ l. l)
    (on_ok_weaker c.clear_answer-result.result (λ sets kept next was. no_answer_staged _ _ (g.met.S.Store.shut_if_dirty c.clear_answer-result.new.store) kept next was sets) c.clear_answer-result.ensures.ok)
    (on_ok_weaker c.clear_answer-result.result (λ sets clean. sets_still _ _ _ _ (sets clean)) c.clear_answer-result.ensures.ok)
    c.clear_answer-result.ensures.tries c.settled.ensures.ok c.settled.ensures.err c.settled.ensures.told c.settled.ensures.quiet)
