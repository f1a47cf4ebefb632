-- What a session answers when it is asked.
use Rattle.std.proofs.Common.{◌≡◌, ℕ, List, Bool, false, cond, length, nat_lt, Option, Some, None, refl, sym, ap, subst}
use Rattle.rv_ledger.specs.Height.{greatest_height}
use Rattle.rvstm_c.specs.Settings.{most_number}
use Rattle.session_requests.specs.Requests.{Ask, Begin, Dump, ◌>>=◌, digest_of}
use Rattle.session_turns.specs.Failures.{MayTurnFail}
use Rattle.session_turns.specs.Replies.{Done}
use Rattle.session_turns.specs.Stages.{IsTurn}
use Rattle.session_turns.specs.declared.answer.Answer.{Answer}
use Rattle.session_turns.specs.declared.answer.Answer.TheVariants as answer
use Rattle.session_turns.specs.declared.dump.EmptyBuffer.{EmptyBuffer}
use Rattle.session_turns.specs.declared.settings.Settings.{Settings}
use Rattle.session_turns.specs.declared.state.State.{State}
use Rattle.rvstm_c.specs.Asked.{begin_asked, with_bytes}
use Rattle.rvstm_c.specs.Embedding.{IsCalled, TakesTurn}
use Rattle.rvstm_c.specs.Given.{IsMadeWhole}
use Rattle.rvstm_c.specs.declared.session.EmbeddedSession.{EmbeddedSession}

-- the text of the storage in memory answers a `dump` as the storage does
whole_dump : (settings : Settings) (s : State) (buffer : EmptyBuffer) (whole : Answer) → IsMadeWhole s (answer.Storage buffer) whole → IsTurn settings s Dump whole s
whole_dump settings s buffer (answer.Done bytes) made = (ap Done made, refl)
whole_dump settings s buffer (answer.Failed failure) made = (subst (MayTurnFail settings s Dump) (sym made) tt, refl)
whole_dump settings s buffer whole made = absurd made

pub whole_turn : (settings : Settings) (s after : State) (ask : Ask) (given whole : Answer) → IsTurn settings s ask given after → IsMadeWhole after given whole → IsTurn settings s ask whole after
whole_turn settings s after ask (answer.Storage buffer) whole turned made =
    subst (λ (a : Ask). IsTurn settings s a whole after) (sym turned.0)
    (subst (λ (z : State). IsTurn settings s Dump whole z) (sym turned.1)
    (whole_dump settings s buffer whole (subst (λ (z : State). IsMadeWhole z (answer.Storage buffer) whole) turned.1 made)))
whole_turn settings s after ask given whole turned made = subst (λ (a : Answer). IsTurn settings s ask a after) (sym made) turned

-- a request that passed the test for what a line may have
pub asked : (b : Bool) (ask : Ask) (before : EmbeddedSession) (status : ℕ) (after : EmbeddedSession) → b ≡ false → TakesTurn ask before status after → IsCalled (cond b None (Some ask)) before status after
asked b ask before status after passed done = subst (λ (b : Bool). IsCalled (cond b None (Some ask)) before status after) (sym passed) done

-- a beginning, by the tests that it passed
pub begun : (height : ℕ) (text bytes : List ℕ) (digest : Option (List ℕ)) (before : EmbeddedSession) (status : ℕ) (after : EmbeddedSession)
    → nat_lt greatest_height height ≡ false → nat_lt most_number (length bytes) ≡ false → digest_of text ≡ Some digest → TakesTurn (Begin height digest bytes) before status after
    → IsCalled (begin_asked height text bytes) before status after
begun height text bytes digest before status after low short is done =
    subst (λ (b : Bool). IsCalled (cond b None (digest_of text >>= (λ d. with_bytes bytes (Begin height d bytes)))) before status after) (sym low)
    (subst (λ (o : Option (Option (List ℕ))). IsCalled (o >>= (λ d. with_bytes bytes (Begin height d bytes))) before status after) (sym is)
    (asked (nat_lt most_number (length bytes)) (Begin height digest bytes) before status after short done))
