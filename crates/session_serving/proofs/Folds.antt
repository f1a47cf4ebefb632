-- Sessions as folds.
use Rattle.std.proofs.Common.{◌≡◌, ℕ, List, [], ◌∷◌, ◌++◌, ap, ◌∙◌}
use Rattle.session_requests.specs.Requests.{Ask}
use Rattle.session_serving.specs.Serving.{AreAnswered, answers_in_turn, state_after}
use Rattle.session_turns.specs.Failures.{IsAnsweredAsTurn}
use Rattle.session_turns.specs.Replies.{turn_reply_text}
use Rattle.session_turns.specs.Turn.{turn}
use Rattle.session_turns.specs.declared.settings.Settings.{Settings}
use Rattle.session_turns.specs.declared.state.State.{State}

pub wanted_fold : (settings : Settings) (s after : State) (asks : List Ask) (text : List ℕ) → AreAnswered (IsAnsweredAsTurn settings) s asks text after → (text ≡ answers_in_turn settings s asks) × (after ≡ state_after settings s asks)
unfolding AreAnswered
wanted_fold settings s after [] text h = h
wanted_fold settings s after (ask ∷ asks) text (answer, next, rest, is, wanted, more) =
    let others = wanted_fold settings next after asks rest more in (
      is ∙ ap (λ (t : List ℕ). t ++ rest) wanted.0
          ∙ ap (λ (t : List ℕ). turn_reply_text (turn settings s ask).reply ++ t) (others.0 ∙ ap (λ (z : State). answers_in_turn settings z asks) wanted.1),
      others.1 ∙ ap (λ (z : State). state_after settings z asks) wanted.1,
    )
