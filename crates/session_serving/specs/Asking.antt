-- Private help of proofs: public clauses cite only `AsksPending` and `IsStorable`. How what was read is done.
use Rattle.std.specs.Prelude.{◌≡◌, ◌≢◌, ◌≤◌, ⊤, ℕ, length, List, [], ◌∷◌, ◌++◌, Option, Some, None, Ok}
use Rattle.std.specs.Arc.{arc_value}
use Rattle.std.specs.Io.KnownBytes.{Appends}
use Rattle.sha2.specs.Sha256.{sha256}
use Rattle.elf32.specs.Image.{image_of}
use Rattle.programs.specs.Programs.{file_limit}
use Rattle.session_requests.specs.Requests.{Ask, Last, Program, requests_of}
use Rattle.session_requests.specs.declared.request.RequestFault.{RequestFault}
use Rattle.session_serving.specs.Serving.{Answering, Leaving, Shutting, end_text, end_fault_of, until_quit}
use Rattle.session_serving.specs.declared.serving.Course.{Course}
use Rattle.session_serving.specs.declared.serving.Course.TheVariants.{Answers, Ends, Breaks, Shuts}
use Rattle.session_serving.specs.declared.serving.ServeFault.{ServeFault}
use Rattle.session_serving.specs.declared.serving.ServeFault.TheVariants.{Broken, Output}
use Rattle.session_turns.specs.Pending.{IsPendingDue, IsPending}
use Rattle.session_turns.specs.declared.pending.Pending.{Pending}
use Rattle.session_turns.specs.declared.pending.Pending.TheVariants as pending
use Rattle.session_turns.specs.declared.settings.Settings.{Settings}
use Rattle.session_turns.specs.declared.state.State.{State}

-- this request comes first in xs, and ys is after it
abbrev pub ComesFirst : Ask → List ℕ → List ℕ → Type 0
ComesFirst ask xs ys = (until_quit (requests_of xs).asks ≡ ask ∷ until_quit (requests_of ys).asks) × (end_fault_of (requests_of xs) ≡ end_fault_of (requests_of ys))

-- no request comes first, and so the session ends
abbrev pub NoneComes : Option RequestFault → List ℕ → Type 0
NoneComes fault xs = (until_quit (requests_of xs).asks ≡ []) × (end_fault_of (requests_of xs) ≡ fault)

-- no request comes first, and nothing changes
abbrev pub NothingComes : {S : Type 0} → Option RequestFault → S → S → List ℕ → Type 0
NothingComes fault s after xs = NoneComes fault xs × (after ≡ s)

-- a request other than `last` has this pending
pub record AsksPending (settings : Settings) (s : State) (ask : Ask) (p : Pending) : Type 0 where
  pub pending : IsPending settings s ask p
  pub due : IsPendingDue s ask p
  pub other : ask ≢ Last

-- what keeps a session can have what is pending: a program has the bytes that it was loaded from, and is not longer than a
-- program may be
abbrev pub IsStorable : List ℕ → Pending → Type 0
IsStorable body (pending.Program name image text) = (sha256 body ≡ name) × (image_of body ≡ Ok (arc_value image)) × (length body ≤ file_limit)
IsStorable body other = ⊤

-- the bytes of a program that is handed in
abbrev pub body_in : Ask → List ℕ
body_in (Program file) = file
body_in ask = []

-- a request was answered, or it shut the session
abbrev pub AnswersOrShuts : {S R F : Type 0} → Answering S → Shutting S F → Leaving S → (S → R → List ℕ) → S → Ask → Course R F → S → Type 0
AnswersOrShuts answers shuts leaves text_of s ask (Answers reply) after = answers s ask (text_of after reply) after × ((rest : List Ask) → leaves s (ask ∷ rest) after)
AnswersOrShuts answers shuts leaves text_of s ask (Shuts fault) after = shuts s ask fault after × ((rest : List Ask) → leaves s (ask ∷ rest) after)
AnswersOrShuts answers shuts leaves text_of s ask other after = ⊥

-- what comes first in xs was done
abbrev pub IsCourse : {S R F : Type 0} → Answering S → Shutting S F → Leaving S → (S → R → List ℕ) → S → Course R F → S → List ℕ → List ℕ → Type 0
IsCourse answers shuts leaves text_of s Ends after xs ys = NothingComes None s after xs
IsCourse answers shuts leaves text_of s (Breaks fault) after xs ys = NothingComes (Some fault) s after xs
IsCourse answers shuts leaves text_of s course after xs ys = (ask : Ask) × ComesFirst ask xs ys × AnswersOrShuts answers shuts leaves text_of s ask course after

-- a session stays open, unless a request shut it
abbrev pub StaysOpen : {R F : Type 0} → Type 0 → Course R F → Type 0
StaysOpen is_open (Shuts fault) = ⊤
StaysOpen is_open other = is_open

-- bytes that are no request were answered, in whole or in part if a write failed
abbrev pub IsFaultAnswered : {F : Type 0} → RequestFault → ServeFault F → Option (List ℕ) → Option (List ℕ) → Type 0
IsFaultAnswered fault (Broken told) before after = (told ≡ fault) × Appends before after (end_text (Some fault))
IsFaultAnswered fault (Output cause) before after = (part : List ℕ) × (left : List ℕ) × (part ++ left ≡ end_text (Some fault)) × Appends before after part
IsFaultAnswered fault other before after = ⊥
