use Rattle.session_file.proofs.Staged.{rolled_back}
use Rattle.session_file.proofs.file.SessionFile.rollback.Goals as goal

pub returns-clause-back : goal.returns-clause-back
returns-clause-back g c = rw (← c.self.view_is) (rolled_back _ _ (g.met.S.Store.shut_if_dirty c.rollback.new.self) c.rollback.ensures.undone)
