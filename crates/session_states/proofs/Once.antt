-- A file keeps one state of a session.
use Rattle.std.proofs.Common.{◌≡◌, Some, sym, ap, ◌∙◌}
use Rattle.session_file.specs.Kept.{Kept}
use Rattle.session_file.specs.declared.rows.SessionRow.{SessionRow}
use Rattle.session_turns.specs.declared.settings.Settings.{Settings}
use Rattle.session_states.specs.States.{FileState, KeepsState, session_row_of}
use Rattle.session_states.proofs.Programs.{loaded_once}

pub kept_once : (settings : Settings) (f g : FileState) (k : Kept) → KeepsState settings f k → KeepsState settings g k → f ≡ g
kept_once settings f g k a b =
    let left = a.session.2 in
    let right = b.session.2 in
    let row : session_row_of settings f.state.rules f.state.height a.session.0 ≡ session_row_of settings g.state.rules g.state.height b.session.0 = cc in
    let store = sym a.storage ∙ b.storage in
    let rules = ap (λ (r : SessionRow). r.rules) row in
    let height = ap (λ (r : SessionRow). r.height) row in
    let digest = a.session.1 ∙ ap (λ (r : SessionRow). Some r.digest) row ∙ sym b.session.1 in
    let programs = loaded_once k.programs f.state.programs g.state.programs a.programs b.programs in
    let no_other = a.no_other ∙ sym b.no_other in
    let last = sym a.answer ∙ b.answer in
    λ i. record {
      state = record { store = store i; rules = rules i; height = height i; digest = digest i; programs = programs i; last = no_other i };
      last = last i;
    }
