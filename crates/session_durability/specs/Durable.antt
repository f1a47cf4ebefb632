-- A session over a file: what it answers, and what a crash leaves.
use Rattle.std.specs.Prelude.{◌≡◌, ◌≢◌, ◌<◌, ◌≤◌, ◌⊎◌, ⊤, ℕ, Bool, List, [], ◌∷◌, ◌++◌, codes, Option, Some, None}
use Rattle.std.specs.Option.{ForSome}
use Rattle.byte_streams.specs.Refusals.{line_text}
use Rattle.rv_ledger.specs.Height.{greatest_height}
use Rattle.session_requests.specs.Requests.{Ask, Program, Forget, Frame, Last, Begin}
use Rattle.session_serving.specs.Serving as serving
use Rattle.session_file.specs.Kept.{HoldsIn, Kept}
use Rattle.session_file.specs.Limits.{HasSmallNumbers, IsLongAnswer}
use Rattle.session_states.specs.Faults.{store_fault_parts}
use Rattle.session_states.specs.States.{FileState, KeepsState, last_of, session_row_of}
use Rattle.session_states.specs.declared.fault.StoreFault.{StoreFault}
use Rattle.session_states.specs.declared.fault.StoreFault.TheVariants.{Unreadable, Damaged, Full, Memory}
use Rattle.sqlite_disk.specs.Disk.{MoreFaults}
use Rattle.sqlite_trees.specs.Tree.{Trees}
use Rattle.sqlite_trees.specs.View.{View, doubt}
use Rattle.session_turns.specs.Failures.{MayTurnFail}
use Rattle.session_turns.specs.Replies.{Failed, Refused, TurnReply, turn_reply_text}
use Rattle.session_turns.specs.Turn.{Turn, turn}
use Rattle.session_turns.specs.declared.refusal.Failure.{Failure}
use Rattle.session_turns.specs.declared.refusal.FrameRefusal.{FrameRefusal as Refusals}
use Rattle.session_turns.specs.declared.refusal.FrameRefusal.TheVariants.{NoFrame}
use Rattle.session_turns.specs.declared.settings.Settings.{Settings}
use Rattle.session_turns.specs.declared.state.State.{State}

-- ---- answers

-- what `last` is answered
abbrev pub last_text : Option (List ℕ × List ℕ) → List ℕ
last_text None = turn_reply_text (Refused NoFrame)
last_text (Some answer) = answer.0 ++ answer.1

-- the last answer after a turn: a frame that counts leaves its own, and a session that begins again has none
abbrev pub last_if_begun : Option (List ℕ × List ℕ) → TurnReply → Option (List ℕ × List ℕ)
last_if_begun last (Refused refusal) = last
last_if_begun last reply = None

abbrev pub last_behind : Option (List ℕ × List ℕ) → Ask → Turn → Option (List ℕ × List ℕ)
last_behind last (Begin height digest bytes) t = last_if_begun last t.reply
last_behind last ask t = last_of t.after.last last

-- a session over a file after a turn of its state
abbrev pub behind_turn : Option (List ℕ × List ℕ) → Ask → Turn → FileState
behind_turn last ask t = record { state = record t.after { last = None }; last = last_behind last ask t }

-- what a session over a file answers a request, and leaves: as its turn says
abbrev pub file_turn : Settings → FileState → Ask → List ℕ × FileState
file_turn settings f Last = (last_text f.last, f)
file_turn settings f ask = (turn_reply_text (turn settings f.state ask).reply, behind_turn f.last ask (turn settings f.state ask))

-- what is reported of a change that the file did not take
abbrev pub failed_store : StoreFault → List ℕ
failed_store fault = line_text (codes "failed ") (store_fault_parts fault)

-- a request changes the file only if it hands in or gives back a program, is a frame that counts, or begins
abbrev pub MayChange : Settings → FileState → Ask → Type 0
MayChange settings f (Program file) = (refusal : Refusals) → (turn settings f.state (Program file)).reply ≢ Refused refusal
MayChange settings f (Forget name) = (refusal : Refusals) → (turn settings f.state (Forget name)).reply ≢ Refused refusal
MayChange settings f (Frame bytes) = f.state.height < greatest_height
MayChange settings f (Begin height digest bytes) = (refusal : Refusals) → (turn settings f.state (Begin height digest bytes)).reply ≢ Refused refusal
MayChange settings f ask = ⊥

-- ---- why a file does not take a change

-- A session goes from moment to moment, and a moment counts the failed calls of the disk so far. So the count at the end of a
-- session bounds how many of its requests were answered for a failure of the disk.
pub record FileMoment : Type 0 where
  pub session : FileState
  pub faults : ℕ
  -- no wrong answer of the disk was taken as true so far
  pub is_clean : Bool

-- a session in a store that shows this, after so many failures
abbrev pub moment : FileState → View → ℕ → FileMoment
moment f v faults = record { session = f; faults = faults; is_clean = v.is_clean }

-- no failure is forgotten
pub record IsLater (old new : FileMoment) : Type 0 where
  pub faults : old.faults ≤ new.faults
  pub clean : doubt old.is_clean ≤ doubt new.is_clean

-- a call of the disk failed in between
abbrev pub HasFailed : FileMoment → FileMoment → Type 0
HasFailed old new = doubt new.is_clean ≡ 0 → MoreFaults old.faults new.faults

-- the format has no row for a session: a number of it is too large, or it has no digest
abbrev pub HasNoRow : Settings → State → Type 0
HasNoRow settings s = (digest : List ℕ) → s.digest ≡ Some digest → ¬ HasSmallNumbers (session_row_of settings s.rules s.height digest)

-- the format has no room for what a request leaves
abbrev pub IsBeyondFormat : Settings → FileState → Type 0
IsBeyondFormat settings f = HasNoRow settings f.state ⊎ ForSome f.last IsLongAnswer

-- why a change is refused: the disk failed, or the change is beyond the format; of a want of memory nothing is said
abbrev pub MayRefuse : Settings → FileMoment → Ask → StoreFault → FileMoment → Type 0
MayRefuse settings old ask Unreadable new = HasFailed old new
MayRefuse settings old ask Damaged new = HasFailed old new
MayRefuse settings old ask Full new = HasFailed old new ⊎ (doubt new.is_clean ≡ 0 → IsBeyondFormat settings (file_turn settings old.session ask).1)
MayRefuse settings old ask Memory new = ⊤
MayRefuse settings old ask fault new = ⊥

-- ---- what is answered

-- a request was answered as wanted; or memory ran out, as it may; or the file did not take the change, which is reported, and all
-- is as it was
abbrev pub IsFileReply : Settings → FileMoment → Ask → List ℕ → FileMoment → Type 0
IsFileReply settings old ask text new =
    ((text ≡ (file_turn settings old.session ask).0) × (new.session ≡ (file_turn settings old.session ask).1))
    ⊎ ((failure : Failure) × MayTurnFail settings old.session.state ask failure × (text ≡ turn_reply_text (Failed failure)) × (new.session ≡ old.session))
    ⊎ ((fault : StoreFault) × MayRefuse settings old ask fault new × MayChange settings old.session ask × (text ≡ failed_store fault) × (new.session ≡ old.session))

abbrev pub IsFileAnswer : Settings → FileMoment → Ask → List ℕ → FileMoment → Type 0
IsFileAnswer settings old ask text new = IsLater old new × IsFileReply settings old ask text new

-- ---- what a crash leaves

-- the trees hold a session of these settings
abbrev pub HoldsState : Settings → FileState → Trees → Type 0
HoldsState settings f db = (k : Kept) × HoldsIn db k × KeepsState settings f k

-- they hold what the next request leaves
abbrev pub HoldsNext : Settings → FileState → List Ask → Trees → Type 0
HoldsNext settings f [] db = ⊥
HoldsNext settings f (ask ∷ asks) db = HoldsState settings (file_turn settings f ask).1 db

-- a crash leaves one of these, and each holds what the answered requests leave, or the next one too
abbrev pub IsLeft : Settings → (Trees → Type 0) → FileState → List Ask → Type 0
IsLeft settings recovers f rest = (db : Trees) → recovers db → HoldsState settings f db ⊎ HoldsNext settings f rest db

-- Wherever a session stops: the first requests of its input were answered in whole, and of the next answer a proper part at most;
-- and a crash leaves what the answered requests leave, or the next one too. So as soon as an answer is whole, a crash leaves the
-- session after it.
abbrev pub IsFileSessionStopped : Settings → FileMoment → List ℕ → Option (List ℕ) → Option (List ℕ) → (Trees → Type 0) → Type 0
IsFileSessionStopped settings old bytes before now recovers =
    serving.IsSessionStopped (IsFileAnswer settings) (λ mid rest _. IsLeft settings recovers mid.session rest) old bytes old before now

-- ---- how a session ends

-- the file was shut by the next request: a call of the disk failed, and memory kept what it had
pub record IsShutBy (settings : Settings) (old : FileMoment) (ask : Ask) (fault : StoreFault) (new : FileMoment) : Type 0 where
  pub later : IsLater old new
  pub failed : HasFailed old new
  pub cause : MayRefuse settings old ask fault new
  pub may : MayChange settings old.session ask
  pub same : new.session ≡ old.session
