-- How a turn answers.
use Rattle.std.proofs.Common.{inl, inr, refl, sym, ap, ◌∙◌}
use Rattle.session_requests.specs.Requests.{Ask}
use Rattle.session_turns.specs.Failures.{IsAnswer}
use Rattle.session_turns.specs.Replies.{Done, turn_reply_text}
use Rattle.session_turns.specs.Stages.{IsTurn, reply_in}
use Rattle.session_turns.specs.Telling.{dump_text}
use Rattle.session_turns.specs.Turn.{turn}
use Rattle.session_turns.specs.declared.answer.Answer.{Answer}
use Rattle.session_turns.specs.declared.answer.Answer.TheVariants as answer
use Rattle.session_turns.specs.declared.settings.Settings.{Settings}
use Rattle.session_turns.specs.declared.state.State.{State}

-- the text of an answer
pub answer_of : (settings : Settings) (s : State) (ask : Ask) (given : Answer) (after : State) → IsTurn settings s ask given after → IsAnswer settings s ask (turn_reply_text (reply_in after given)) after
answer_of settings s ask (answer.Failed failure) after (may, same) = inr (failure, may, refl, same)
answer_of settings s ask (answer.Storage buffer) after (is, same) = inl (
  ap (λ (z : State). turn_reply_text (Done (dump_text z.rules z.store))) same ∙ ap (λ (a : Ask). turn_reply_text (turn settings s a).reply) (sym is),
  same ∙ ap (λ (a : Ask). (turn settings s a).after) (sym is),
)
answer_of settings s ask given after (is, leads) = inl (ap turn_reply_text is, leads)
