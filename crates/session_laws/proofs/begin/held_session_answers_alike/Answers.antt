use Rattle.std.proofs.Common.{ℕ, List, All}
use Rattle.std.specs.FinMap.{entries}
use Rattle.session_requests.specs.Requests.{Ask}
use Rattle.session_serving.specs.Serving.{AreAnswered}
use Rattle.session_turns.specs.Failures.{IsAnswer}
use Rattle.session_turns.specs.Turn.{new_session}
use Rattle.session_turns.specs.declared.settings.Settings.{Settings}
use Rattle.session_turns.specs.declared.state.State.{State}
use Rattle.session_laws.specs.Chained.{IsEntry}
use Rattle.session_laws.proofs.Begins.{session_answers, session_left}
use Rattle.session_laws.proofs.Chains.{allowed}
use Rattle.session_laws.proofs.ShortTurns.{answered_short, new_short}
use Rattle.session_laws.proofs.begin.held_session_answers_alike.Goals as goal

pub returns : goal.returns
returns c =
    let s : State = c.args.s.now in
    let stored : (settings : Settings) (before : List Ask) (text : List ℕ) → AreAnswered (IsAnswer settings) (new_session settings) before text s → All (IsEntry s.rules) (entries s.store) =
    λ settings before text told. allowed s.rules s.store c.are_entries.ensures (answered_short settings (new_session settings) s before text told (new_short settings)) in
    record {
      answers = λ settings t before asks text told agrees programs late. session_answers settings s t asks (stored settings before text told) agrees programs late;
      left = λ settings t before asks text told agrees programs. session_left settings s t asks (stored settings before text told) agrees programs;
    }
