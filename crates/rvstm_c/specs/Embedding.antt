-- What the calls on a handle return, and what they make of its session.
use Rattle.std.specs.Prelude.{◌≡◌, ◌⊎◌, ℕ, Bool, true, false, List, [], ◌++◌, drop, length, nat_lt, Option, Some, None}
use Rattle.session_requests.specs.Requests.{Ask}
use Rattle.session_turns.specs.Stages.{IsTurn, reply_in}
use Rattle.session_turns.specs.Turn.{new_session}
use Rattle.session_turns.specs.declared.answer.Answer.{Answer}
use Rattle.session_turns.specs.declared.settings.Settings.{Settings}
use Rattle.rvstm_c.specs.Given.{bytes_given, status_given}
use Rattle.rvstm_c.specs.Statuses.{already_open, bad_settings, closed, done, no_memory, refused, short_buffer, status_of}
use Rattle.rvstm_c.specs.declared.given.Given.TheVariants.{Answered, BadLine}
use Rattle.rvstm_c.specs.declared.session.EmbeddedSession.{EmbeddedSession}

-- a session before its first request, with an answer without bytes
abbrev pub IsNew : Settings → EmbeddedSession → Type 0
IsNew settings session =
    (session.settings ≡ settings) × (session.state ≡ new_session settings)
    × (status_given session.state session.given ≡ done) × (bytes_given session.state session.given ≡ [])

-- a handle was opened with settings, or with None if no session can have them
abbrev pub IsOpened : Option Settings → Option EmbeddedSession → ℕ → Option EmbeddedSession → Type 0
IsOpened settings (Some before) status after = (status ≡ already_open) × (after ≡ Some before)
IsOpened None None status after = (status ≡ bad_settings) × (after ≡ None)
IsOpened (Some settings) None status after =
    ((status ≡ done) × (session : EmbeddedSession) × (after ≡ Some session) × IsNew settings session) ⊎ ((status ≡ no_memory) × (after ≡ None))

-- a call on a handle: without a session it returns CLOSED and does nothing
abbrev pub OnSession : (EmbeddedSession → ℕ → EmbeddedSession → Type 0) → Option EmbeddedSession → ℕ → Option EmbeddedSession → Type 0
OnSession call None status after = (status ≡ closed) × (after ≡ None)
OnSession call (Some before) status after = (session : EmbeddedSession) × (after ≡ Some session) × call before status session

-- a session took the turn of a request, and keeps the answer
abbrev pub TakesTurn : Ask → EmbeddedSession → ℕ → EmbeddedSession → Type 0
TakesTurn ask before status after =
    (given : Answer) × (after.given ≡ Answered given) × IsTurn before.settings before.state ask given after.state
    × (status ≡ status_of (reply_in after.state given)) × (after.settings ≡ before.settings)

-- a session was asked for this; what no line can say is refused, and only that answer is kept
abbrev pub IsCalled : Option Ask → EmbeddedSession → ℕ → EmbeddedSession → Type 0
IsCalled (Some ask) before status after = TakesTurn ask before status after
IsCalled None before status after =
    (after.given ≡ BadLine) × (status ≡ refused) × (after.state ≡ before.state) × (after.settings ≡ before.settings)

-- a handle was closed
abbrev pub IsClosed : Option EmbeddedSession → ℕ → Type 0
IsClosed None status = status ≡ closed
IsClosed (Some before) status = status ≡ done

-- the bytes after the line of the last answer of a handle's session, or none if it has no session
abbrev pub bytes_in : Option EmbeddedSession → List ℕ
bytes_in None = []
bytes_in (Some session) = bytes_given session.state session.given

-- whether a buffer is shorter than a text decides: it stays, or the text was copied to its beginning
abbrev pub IsCopiedWhere : Bool → List ℕ → List ℕ → ℕ → List ℕ → Type 0
IsCopiedWhere true text before status after = (status ≡ short_buffer) × (after ≡ before)
IsCopiedWhere false text before status after = (status ≡ done) × (after ≡ text ++ drop (length text) before)

-- a text was copied to the beginning of a buffer, or the buffer is shorter
abbrev pub IsCopied : List ℕ → List ℕ → ℕ → List ℕ → Type 0
IsCopied text before status after = IsCopiedWhere (nat_lt (length before) (length text)) text before status after

-- the bytes of the last answer of a handle's session were copied to a buffer
abbrev pub IsAnswerCopied : Option EmbeddedSession → List ℕ → ℕ → List ℕ → Type 0
IsAnswerCopied None before status after = (status ≡ closed) × (after ≡ before)
IsAnswerCopied (Some session) before status after = IsCopied (bytes_given session.state session.given) before status after
