use Rattle.session_tree.proofs.Tries.{after}
use Rattle.session_file.proofs.writing.replace_entries.Goals as goal

pub returns-clause-tries : goal.returns-clause-tries
returns-clause-tries g c = after g.S.Store c.insert_entries.result c.in_ok-remove_entries.ensures.tries c.in_ok-remove_entries.ensures.frame c.insert_entries.ensures.tries
