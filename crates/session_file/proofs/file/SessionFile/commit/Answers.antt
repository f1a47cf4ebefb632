use Rattle.std.proofs.Common.{ap, ◌∙◌}
use Rattle.std.proofs.lemmas.Result.{on_err_weaker, on_ok_weaker}
use Rattle.sqlite_trees.specs.View.{View}
use Rattle.session_file.proofs.Staged.{committed, rolled_back}
use Rattle.session_file.proofs.file.SessionFile.commit.Goals as goal

pub returns-clause-ok : goal.returns-clause-ok
returns-clause-ok g c = rw (← c.self.view_is) (on_ok_weaker c.commit.result (committed _ _ (g.met.S.Store.shut_if_dirty c.commit.new.self)) c.commit.ensures.ok)

pub returns-clause-err : goal.returns-clause-err
returns-clause-err g c = rw (← c.self.view_is) (on_err_weaker c.commit.result (rolled_back _ _ (g.met.S.Store.shut_if_dirty c.commit.new.self)) c.commit.ensures.err)

pub returns-clause-sound : goal.returns-clause-sound
returns-clause-sound g c = on_ok_weaker c.commit.result (λ commits clean. ap (λ (v : View). v.is_broken) (commits clean).is ∙ (commits clean).sound) c.commit.ensures.ok

pub returns-clause-fails : goal.returns-clause-fails
returns-clause-fails g c = rw (← c.self.view_is) (record { cause = c.commit.ensures.cause; told = c.commit.ensures.told })

pub returns-clause-lasts : goal.returns-clause-lasts
returns-clause-lasts g c = rw (← c.self.view_is) (record { clean = c.commit.ensures.clean; counts = c.commit.ensures.counts; closes = c.commit.ensures.open })
