-- The answer to the last request of a session.
use Rattle.std.specs.Prelude.{◌≡◌, ℕ, Bool, true, false, List, []}
use Rattle.session_turns.specs.Replies.{answer_bytes}
use Rattle.session_turns.specs.Stages.{reply_in}
use Rattle.session_turns.specs.Telling.{dump_text}
use Rattle.session_turns.specs.declared.answer.Answer.{Answer}
use Rattle.session_turns.specs.declared.answer.Answer.TheVariants as answer
use Rattle.session_turns.specs.declared.refusal.Failure.TheVariants as want
use Rattle.session_turns.specs.declared.state.State.{State}
use Rattle.rvstm_c.specs.Statuses.{refused, status_of}
use Rattle.rvstm_c.specs.declared.given.Given.{Given}
use Rattle.rvstm_c.specs.declared.given.Given.TheVariants.{Answered, BadLine}

-- whether its bytes are in memory
abbrev pub is_in_memory : Given → Bool
is_in_memory (Answered (answer.Storage buffer)) = false
is_in_memory other = true

-- what the call returned
abbrev pub status_given : State → Given → ℕ
status_given s (Answered given) = status_of (reply_in s given)
status_given s BadLine = refused

-- the bytes after the answer's line
abbrev pub bytes_given : State → Given → List ℕ
bytes_given s (Answered given) = answer_bytes (reply_in s given)
bytes_given s BadLine = []

-- an answer in the place of another one: for a storage its text in memory, or the failure that memory for it ran out; otherwise
-- the same answer
abbrev pub IsMadeWhole : State → Answer → Answer → Type 0
IsMadeWhole s (answer.Storage buffer) (answer.Done bytes) = bytes.items ≡ dump_text s.rules s.store
IsMadeWhole s (answer.Storage buffer) (answer.Failed failure) = failure ≡ want.Answer
IsMadeWhole s (answer.Storage buffer) other = ⊥
IsMadeWhole s given whole = whole ≡ given
