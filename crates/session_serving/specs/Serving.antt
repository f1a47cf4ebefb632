-- What a session writes for the requests of an input, and why it ends.
use Rattle.std.specs.Prelude.{◌≡◌, ◌≢◌, ◌⊎◌, ⊤, ℕ, List, [], ◌∷◌, ◌++◌, codes, length, Bool, true, false, Option, Some, None, if◌then◌else◌}
use Rattle.std.specs.Io.KnownBytes.{Appends}
use Rattle.byte_streams.specs.Refusals.{Parts, line_text, without_line}
use Rattle.byte_streams.specs.declared.fault.WriteFault.{WriteFault}
use Rattle.session_requests.specs.Requests.{AllRequests, Ask, Quit, requests_of}
use Rattle.session_requests.specs.declared.request.RequestFault.{RequestFault}
use Rattle.session_requests.specs.declared.request.RequestFault.TheVariants.{BadLine, Cut}
use Rattle.session_serving.specs.declared.serving.ServeFault.{ServeFault}
use Rattle.session_serving.specs.declared.serving.ServeFault.TheVariants.{Broken, Unreadable, Output, Shut}
use Rattle.session_turns.specs.Replies.{turn_reply_text}
use Rattle.session_turns.specs.Turn.{turn}
use Rattle.session_turns.specs.declared.settings.Settings.{Settings}
use Rattle.session_turns.specs.declared.state.State.{State}

-- ---- requests one after another

-- how a session, a value of S, may answer a request, and what that leads to: `answers s ask text next`
abbrev pub Answering : Type 0 → Type 1
Answering S = S → Ask → List ℕ → S → Type 0

-- by what fault a request may shut it, and what that leads to: `shuts s ask fault next`
abbrev pub Shutting : Type 0 → Type 0 → Type 1
Shutting S F = S → Ask → F → S → Type 0

-- what a crash of a session may leave: `leaves s rest now`, if it is `now`, and was s before the first of these requests
abbrev pub Leaving : Type 0 → Type 1
Leaving S = S → List Ask → S → Type 0

-- requests were answered one after another
unfoldable pub AreAnswered : {S : Type 0} → Answering S → S → List Ask → List ℕ → S → Type 0
AreAnswered answers s [] text after = (text ≡ []) × (after ≡ s)
AreAnswered {S = S} answers s (ask ∷ asks) text after =
    (answer : List ℕ) × (next : S) × (rest : List ℕ)
    × (text ≡ answer ++ rest) × answers s ask answer next × AreAnswered answers next asks rest after

-- the answers if memory never runs out, each over what the ones before it left
abbrev pub answers_in_turn : Settings → State → List Ask → List ℕ
answers_in_turn settings s [] = []
answers_in_turn settings s (ask ∷ asks) = turn_reply_text (turn settings s ask).reply ++ answers_in_turn settings (turn settings s ask).after asks

-- what they leave: a left fold
abbrev pub state_after : Settings → State → List Ask → State
state_after settings s [] = s
state_after settings s (ask ∷ asks) = state_after settings (turn settings s ask).after asks

-- ---- all of an input

-- the requests before the first `q`, which has no answer, and after which nothing is read
abbrev pub until_quit : List Ask → List Ask
until_quit [] = []
until_quit (Quit ∷ asks) = []
until_quit (ask ∷ asks) = ask ∷ until_quit asks

-- whether a `q` comes
abbrev pub quits : List Ask → Bool
quits [] = false
quits (Quit ∷ asks) = true
quits (ask ∷ asks) = quits asks

-- why a session ends: by no fault at a `q` or at the input's end, otherwise by the bytes that are no request
abbrev pub end_fault_of : AllRequests → Option RequestFault
end_fault_of all = if quits all.asks then None else all.fault

-- the parts of what such a fault prints
abbrev pub request_fault_parts : RequestFault → Parts
request_fault_parts BadLine = without_line (codes "request") (codes "BadLine") 1
request_fault_parts Cut = without_line (codes "request") (codes "Cut") 2

-- what is written last
abbrev pub end_text : Option RequestFault → List ℕ
end_text None = []
end_text (Some fault) = line_text (codes "refused ") (request_fault_parts fault)

-- a session answered all requests of an input, and what ended it; and its writer took all of that
abbrev pub IsServed : {S : Type 0} → Answering S → Option RequestFault → S → List ℕ → S → Option (List ℕ) → Option (List ℕ) → Type 0
IsServed answers fault old bytes new before after =
    (text : List ℕ) × AreAnswered answers old (until_quit (requests_of bytes).asks) text new
    × (end_fault_of (requests_of bytes) ≡ fault) × Appends before after (text ++ end_text fault)

-- ---- sessions that are cut short

-- a write failed: in the answer of the next request, which was done, or in what is written last
abbrev pub IsAnswerCutAt : {S : Type 0} → Answering S → Option RequestFault → S → List Ask → List ℕ → S → Type 0
IsAnswerCutAt answers fault s [] part after = (left : List ℕ) × (part ++ left ≡ end_text fault) × (after ≡ s)
IsAnswerCutAt answers fault s (ask ∷ asks) part after = (left : List ℕ) × answers s ask (part ++ left) after

-- the first requests of an input were answered in whole, and then a write failed
abbrev pub IsCutOff : {S : Type 0} → Answering S → S → List ℕ → S → Option (List ℕ) → Option (List ℕ) → Type 0
IsCutOff {S = S} answers old bytes new before after =
    (heard : List Ask) × (rest : List Ask) × (text : List ℕ) × (mid : S) × (part : List ℕ)
    × (until_quit (requests_of bytes).asks ≡ heard ++ rest) × AreAnswered answers old heard text mid
    × IsAnswerCutAt answers (end_fault_of (requests_of bytes)) mid rest part new × Appends before after (text ++ part)

-- the first requests were answered, and then a read failed, if one may; or 2^64 - 1 requests were answered
abbrev pub IsUnread : {S : Type 0} → Type 0 → Answering S → S → List ℕ → S → Option (List ℕ) → Option (List ℕ) → Type 0
IsUnread may_fail answers old bytes new before after =
    (heard : List Ask) × (rest : List Ask) × (text : List ℕ)
    × (until_quit (requests_of bytes).asks ≡ heard ++ rest) × AreAnswered answers old heard text new
    × Appends before after text × (may_fail ⊎ (length heard ≡ 18446744073709551615))

-- the first requests were answered, and the next one shut the session
abbrev pub IsShut : {S F : Type 0} → Answering S → Shutting S F → F → S → List ℕ → S → Option (List ℕ) → Option (List ℕ) → Type 0
IsShut {S = S} answers shuts fault old bytes new before after =
    (heard : List Ask) × (ask : Ask) × (rest : List Ask) × (text : List ℕ) × (mid : S) × (until_quit (requests_of bytes).asks ≡ heard ++ ask ∷ rest)
    × AreAnswered answers old heard text mid × Appends before after text × shuts mid ask fault new

-- how a fault ended a session
abbrev pub IsEndedBy : {S F : Type 0} → Type 0 → Answering S → Shutting S F → ServeFault F → S → List ℕ → S → Option (List ℕ) → Option (List ℕ) → Type 0
IsEndedBy may_fail answers shuts (Broken fault) old bytes new before after = IsServed answers (Some fault) old bytes new before after
IsEndedBy may_fail answers shuts Unreadable old bytes new before after = IsUnread may_fail answers old bytes new before after
IsEndedBy may_fail answers shuts (Output fault) old bytes new before after = IsCutOff answers old bytes new before after
IsEndedBy may_fail answers shuts (Shut fault) old bytes new before after = IsShut answers shuts fault old bytes new before after

-- if the fault is that of a write, the writer may refuse so
abbrev pub MayEnd : {F : Type 0} → (WriteFault → Type 0) → ServeFault F → Type 0
MayEnd may_refuse (Output fault) = may_refuse fault
MayEnd may_refuse other = ⊤

-- ---- what a crash leaves

-- a part of a text that is not all of it
abbrev pub IsProperPart : List ℕ → List ℕ → Type 0
IsProperPart part text = (left : List ℕ) × (left ≢ []) × (part ++ left ≡ text)

-- nothing, or a proper part of the answer to the next request: an answer that is whole counts as given; if no request is left, a
-- part of what is written last, or all of it, which changes nothing
abbrev pub IsPart : {S : Type 0} → Answering S → Option RequestFault → S → List Ask → List ℕ → Type 0
IsPart answers fault now [] part = (left : List ℕ) × (part ++ left ≡ end_text fault)
IsPart {S = S} answers fault now (ask ∷ asks) part = (part ≡ []) ⊎ ((text : List ℕ) × (next : S) × answers now ask text next × IsProperPart part text)

-- Wherever a session stops: the first requests of its input were answered in whole, and of the next answer a proper part at most;
-- and a crash leaves what it may of the session that they left and of the requests after them.
abbrev pub IsSessionStopped : {S : Type 0} → Answering S → Leaving S → S → List ℕ → S → Option (List ℕ) → Option (List ℕ) → Type 0
IsSessionStopped {S = S} answers leaves old bytes new before after =
    (heard : List Ask) × (rest : List Ask) × (text : List ℕ) × (mid : S) × (part : List ℕ)
    × (until_quit (requests_of bytes).asks ≡ heard ++ rest) × AreAnswered answers old heard text mid
    × Appends before after (text ++ part) × IsPart answers (end_fault_of (requests_of bytes)) mid rest part × leaves mid rest new
