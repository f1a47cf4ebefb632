use Rattle.std.proofs.lemmas.Result.{on_ok_weaker}
use Rattle.overlay.specs.Overlay.{with_changes}
use Rattle.session_file.proofs.Staged.{storage_ok, writes_still}
use Rattle.session_file.proofs.StagedIn.{stages_in}
use Rattle.session_file.proofs.file.SessionFile.stage_changes.Goals as goal

pub returns : goal.returns
returns g c =
    let v = g.S.Store.view in
    rw (← c.self.view_is, c.settled.ensures.given)
    (stages_in g.S.Store _ _ _ c.self.inside.store c.change_entries-result.new.store c.settled.new.store c.change_entries-result.result (g.met.S.Store.shut_if_dirty c.settled.new.store) (λ l. l)
    (storage_ok c.change_entries-result.result (v c.self.inside.store) (v c.change_entries-result.new.store) (g.met.S.Store.shut_if_dirty c.change_entries-result.new.store) c.args.base.now (with_changes c.args.base.now c.args.changes.now) c.change_entries-result.ensures.ok c.change_entries-result.ensures.frame c.change_entries-result.ensures.limits)
    (on_ok_weaker c.change_entries-result.result (λ only clean. writes_still (v c.self.inside.store) (v c.change_entries-result.new.store) (only clean)) c.change_entries-result.ensures.frame)
    c.change_entries-result.ensures.tries c.settled.ensures.ok c.settled.ensures.err c.settled.ensures.told c.settled.ensures.quiet)
