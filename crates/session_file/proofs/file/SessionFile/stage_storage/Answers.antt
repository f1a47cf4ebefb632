use Rattle.std.proofs.lemmas.Result.{on_ok_weaker}
use Rattle.session_file.proofs.Staged.{storage_ok, writes_still}
use Rattle.session_file.proofs.StagedIn.{stages_in}
use Rattle.session_file.proofs.file.SessionFile.stage_storage.Goals as goal

pub returns : goal.returns
returns g c =
    let v = g.S.Store.view in
    rw (← c.self.view_is, c.settled.ensures.given)
    (stages_in g.S.Store _ _ _ c.self.inside.store c.replace_entries-result.new.store c.settled.new.store c.replace_entries-result.result (g.met.S.Store.shut_if_dirty c.settled.new.store) (λ l. l)
    (storage_ok c.replace_entries-result.result (v c.self.inside.store) (v c.replace_entries-result.new.store) (g.met.S.Store.shut_if_dirty c.replace_entries-result.new.store) c.args.base.now c.args.storage.now c.replace_entries-result.ensures.ok c.replace_entries-result.ensures.frame (on_ok_weaker c.replace_entries-result.result (λ all clean is before. all) c.replace_entries-result.ensures.limits))
    (on_ok_weaker c.replace_entries-result.result (λ only clean. writes_still (v c.self.inside.store) (v c.replace_entries-result.new.store) (only clean)) c.replace_entries-result.ensures.frame)
    c.replace_entries-result.ensures.tries c.settled.ensures.ok c.settled.ensures.err c.settled.ensures.told c.settled.ensures.quiet)
