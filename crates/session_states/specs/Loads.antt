-- Private help of proofs; no public clause cites it. What a load makes of rows.
use Rattle.std.specs.Prelude.{◌≡◌, false, is_some, Option, Some}
use Rattle.std.specs.FinMap.{empty}
use Rattle.std.specs.Option.{option_map}
use Rattle.session_tree.specs.Entries.{ByteMap}
use Rattle.rv_ledger.specs.Key.{Storage}
use Rattle.session_file.specs.Kept.{Kept}
use Rattle.session_file.specs.Opening.{answer_parts}
use Rattle.session_file.specs.declared.rows.AnswerRow.{AnswerRow}
use Rattle.session_file.specs.declared.rows.SessionRow.{SessionRow}
use Rattle.session_turns.specs.Programs.{ProgramsByName}

-- what these rows keep
abbrev pub kept_rows : ByteMap → Storage → Option SessionRow → Option AnswerRow → Kept
kept_rows files storage session answer = record {
  storage = storage;
  programs = files;
  session = session;
  answer = option_map answer_parts answer;
}

-- there is no row, except perhaps that of a session
pub record HasNoRows (keys : Storage) (loaded : Option ProgramsByName) (last : Option AnswerRow) : Type 0 where
  pub storage : keys ≡ empty
  pub programs : loaded ≡ Some empty
  pub answer : is_some last ≡ false
