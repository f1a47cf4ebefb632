use Rattle.std.proofs.Common.{subst}
use Rattle.session_states.specs.States.{file_state}
use Rattle.session_durability.proofs.Openings.{new_is_held, new_is_kept}
use Rattle.session_durability.proofs.opening.begin_new.Goals as goal

pub returns-in-Ok-clause-kept : goal.returns-in-Ok-clause-kept
returns-in-Ok-clause-kept g c =
    new_is_kept c.args.settings (g.S.Store.view c.keep_new.new.file) (file_state c.args.loaded.state c.args.loaded.answer) c.requires.digest c.requires.new (c.in-Ok.ensures.ok c.requires.nothing)

pub returns-in-Ok-clause-crash : goal.returns-in-Ok-clause-crash
returns-in-Ok-clause-crash g c db left = new_is_held c.args.settings db (g.S.Store.recovers c.args.file db) c.requires.digest (c.keep_new.ensures.crash c.requires.nothing db left)

pub returns-in-Err-clause-left : goal.returns-in-Err-clause-left
returns-in-Err-clause-left g c db left = new_is_held c.args.settings db (g.S.Store.recovers c.args.file db) c.requires.digest
    (c.keep_new.ensures.crash c.requires.nothing db (subst (λ s. g.S.Store.recovers s db) c.into_store.ensures.store left))
