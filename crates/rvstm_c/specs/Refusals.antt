-- The parts of a refusal or a failure, as C gets them.
use Rattle.std.specs.Prelude.{◌≡◌, ℕ, List, ◌++◌, ◌-◌, codes, length, replicate, Option, Some, None}
use Rattle.byte_streams.specs.Refusals.{Parts, without_line}
use Rattle.session_turns.specs.Replies.{TurnReply, Done, Refused, Failed, frame_refusal_parts, parts_of_failure}
use Rattle.session_turns.specs.Stages.{reply_in}
use Rattle.session_turns.specs.declared.state.State.{State}
use Rattle.rvstm_c.specs.Given.{status_given}
use Rattle.rvstm_c.specs.Statuses.{closed}
use Rattle.rvstm_c.specs.declared.given.Given.{Given}
use Rattle.rvstm_c.specs.declared.given.Given.TheVariants.{Answered, BadLine}
use Rattle.rvstm_c.specs.declared.refusal.RefusalParts.{RefusalParts}
use Rattle.rvstm_c.specs.declared.session.EmbeddedSession.{EmbeddedSession}

-- a text, and zeros after it up to a length
abbrev pub padded : ℕ → List ℕ → List ℕ
padded room text = text ++ replicate (room - length text) 0

-- a line's number; 0 for none
abbrev pub number_or_none : Option ℕ → ℕ
number_or_none None = 0
number_or_none (Some line) = line

-- the parts of a refusal
abbrev pub handed_out : Parts → RefusalParts
handed_out parts = record {
  line = number_or_none parts.line;
  number = parts.number;
  area = padded 8 parts.area;
  name = padded 24 parts.name;
}

-- zeros, if nothing was refused and nothing failed
abbrev pub no_parts : RefusalParts
no_parts = record { line = 0; number = 0; area = replicate 8 0; name = replicate 24 0 }

-- the parts of a reply
abbrev pub parts_of_reply : TurnReply → RefusalParts
parts_of_reply (Done bytes) = no_parts
parts_of_reply (Refused refusal) = handed_out (frame_refusal_parts refusal)
parts_of_reply (Failed failure) = handed_out (parts_of_failure failure)

-- the parts of the answer to the last request
abbrev pub parts_given : State → Given → RefusalParts
parts_given s (Answered given) = parts_of_reply (reply_in s given)
parts_given s BadLine = handed_out (without_line (codes "request") (codes "BadLine") 1)

-- the parts of the last answer of a handle's session were handed out
abbrev pub ArePartsOf : Option EmbeddedSession → ℕ → RefusalParts → Type 0
ArePartsOf None status parts = (status ≡ closed) × (parts ≡ no_parts)
ArePartsOf (Some session) status parts = (status ≡ status_given session.state session.given) × (parts ≡ parts_given session.state session.given)
