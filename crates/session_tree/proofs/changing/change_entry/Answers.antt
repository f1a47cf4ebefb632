use Rattle.session_tree.proofs.Tries.{after}
use Rattle.session_tree.proofs.changing.change_entry.Goals as goal

pub returns-clause-tries : goal.returns-clause-tries
returns-clause-tries g c = after g.S.Store c.insert_new.result c.in_ok-remove_old.ensures.tries (λ clean. (c.in_ok-remove_old.ensures.ok clean).rest) c.insert_new.ensures.tries
