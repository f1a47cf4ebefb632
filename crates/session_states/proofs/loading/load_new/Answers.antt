use Rattle.session_states.proofs.Outcomes.{loads_new, unloadable_rows}
use Rattle.session_states.proofs.loading.load_new.Goals as goal

pub returns-then-not-has_no_rows-clause-err : goal.returns-then-not-has_no_rows-clause-err
returns-then-not-has_no_rows-clause-err c files all =
    unloadable_rows c.args.settings files c.args.storage.now c.args.programs.now c.args.answer.now all (c.has_no_rows.ensures.other c.if-not-has_no_rows.true)

pub returns-clause-ok : goal.returns-clause-ok
returns-clause-ok c files all =
    loads_new c.args.settings files c.args.storage.now c.args.programs.now c.args.answer.now c.new-state.result all (c.has_no_rows.ensures.same c.if-not-has_no_rows.false) c.new-state.ensures
