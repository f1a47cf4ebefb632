use Rattle.session_turns.specs.Turn.{new_session}
use Rattle.session_laws.proofs.ShortTurns.{answered_short, asks_short, block_entries, file_entries, new_short, turn_short}
use Rattle.session_laws.proofs.short.values_stay_short.Goals as goal

pub returns : goal.returns
returns c = record {
  read = file_entries;
  block = block_entries;
  new = new_short;
  turn = turn_short;
  left = λ settings asks. asks_short settings (new_session settings) asks (new_short settings);
  answered = λ settings after asks text told. answered_short settings (new_session settings) after asks text told (new_short settings);
}
