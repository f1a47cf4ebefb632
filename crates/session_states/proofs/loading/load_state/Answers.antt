use Rattle.std.proofs.Common.{IfErr, Option, subst, sym}
use Rattle.session_tree.specs.Entries.{ByteMap}
use Rattle.session_file.specs.declared.rows.SessionRow.{SessionRow}
use Rattle.session_states.specs.Loads.{kept_rows}
use Rattle.session_states.specs.States.{AreLoadedAs, IsUnloadable}
use Rattle.session_states.proofs.loading.load_state.Goals as goal

pub returns-in-Some-clause-err : goal.returns-in-Some-clause-err
returns-in-Some-clause-err c =
    let found = c.args.found in
    subst (λ (row : Option SessionRow). IfErr c.load_session.result (λ fault. (files : ByteMap) → AreLoadedAs files found.programs → IsUnloadable c.args.settings (kept_rows files found.storage row found.answer) fault))
    (sym c.in-Some.is) c.load_session.ensures.err
