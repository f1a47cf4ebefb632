-- What a request will change, before the change is made.
use Rattle.std.specs.Prelude.{◌≡◌, ◌⊎◌, ⊤, ℕ, ◌+◌, ◌<◌, List, [], false, Option, Some, None, Ok, Vec, IsSome, nat_le, if◌then◌else◌}
use Rattle.std.specs.declared.alloc.Global.{Global}
use Rattle.std.specs.Arc.{arc_value}
use Rattle.std.specs.FinMap.{contains_key, insert, remove}
use Rattle.rv_ledger.specs.Height.{greatest_height}
use Rattle.sha2.specs.Sha256.{sha256}
use Rattle.elf32.specs.Image.{image_of}
use Rattle.overlay.specs.Commit.{HasRoom}
use Rattle.session_requests.specs.Requests.{Ask, Begin, Forget, Frame, Program, Try}
use Rattle.rv_ledger.specs.Key.{Storage}
use Rattle.session_turns.specs.Failures.{MayTurnFail}
use Rattle.session_turns.specs.Replies.{Done, kept_reply, refused_answer}
use Rattle.session_turns.specs.Stages.{IsRequestAnswered, IsTurn, left_of, reply_in}
use Rattle.session_turns.specs.Turn.{Turn, next_digest, told, turn}
use Rattle.session_turns.specs.declared.answer.Answer.{Answer}
use Rattle.session_turns.specs.declared.answer.Answer.TheVariants as answer
use Rattle.session_turns.specs.declared.kept.KeptAnswer.{KeptAnswer}
use Rattle.session_turns.specs.declared.pending.Pending.{Pending}
use Rattle.session_turns.specs.declared.pending.Pending.TheVariants as pending
use Rattle.session_turns.specs.declared.pending.PendingFrame.{PendingFrame}
use Rattle.session_turns.specs.declared.pending.PendingRun.{PendingRun}
use Rattle.session_turns.specs.declared.refusal.Failure.{Failure}
use Rattle.session_turns.specs.declared.refusal.Failure.TheVariants as want
use Rattle.session_turns.specs.declared.refusal.FrameRefusal.TheVariants.{TooHigh, TooLong}
use Rattle.session_turns.specs.declared.run.Left.{Left}
use Rattle.session_turns.specs.declared.run.Left.TheVariants as left
use Rattle.session_turns.specs.declared.settings.Settings.{Settings}
use Rattle.session_turns.specs.declared.stages.Stop.{Stop}
use Rattle.session_turns.specs.declared.stages.Stop.TheVariants as stop
use Rattle.session_turns.specs.declared.state.State.{State}

-- ---- what is pending, made

-- the storage and the rules after a run, or the earlier ones if nothing ran
abbrev pub after_run_of : State → Option PendingRun → State
after_run_of s None = s
after_run_of s (Some run) = record s { store = left_of s.store run.left; rules = run.rules }

-- the reply of what is pending, and the state that it leaves
abbrev pub turn_of : State → Pending → Turn
turn_of s (pending.Nothing given) = told s (reply_in s given)
turn_of s (pending.Program name image text) = record { reply = Done text.items; after = record s { programs = insert s.programs name (arc_value image) } }
turn_of s (pending.Forget name) = record { reply = Done []; after = record s { programs = remove s.programs name } }
turn_of s (pending.Frame frame) = record {
  reply = kept_reply frame.answer;
  after = record (after_run_of s frame.run) { height = frame.height; digest = frame.digest; last = Some frame.answer };
}
turn_of s (pending.Begin begin) = record {
  reply = Done [];
  after = record s { store = begin.store; rules = begin.rules; height = begin.height; digest = begin.digest; last = None };
}

-- a frame that counts: what its run leaves, if it ran, and its answer
abbrev pub counting : State → Option PendingRun → KeptAnswer → PendingFrame
counting s run kept = record { run = run; height = s.height + 1; digest = next_digest s.digest (kept_reply kept); answer = kept }

-- a frame that stopped before it ran
abbrev pub stopped_frame : State → Stop → Pending
stopped_frame s (stop.Refused why) = pending.Frame (counting s None (refused_answer why))
stopped_frame s (stop.Failed want) = pending.Nothing (answer.Failed want)

-- a frame that is refused for its length
abbrev pub long_frame : State → Pending
long_frame s = if nat_le greatest_height s.height then pending.Nothing (answer.Refused TooHigh) else pending.Frame (counting s None (refused_answer TooLong))

-- ---- the room that it needs

-- the failures that may come while that room is made
abbrev pub MayWantRoom : Pending → Failure → Type 0
MayWantRoom (pending.Program name image text) failure = failure ≡ want.Program
MayWantRoom (pending.Frame frame) failure = (failure ≡ want.Run) × IsSome frame.run
MayWantRoom other failure = ⊥

-- a program that is pending is not here yet
abbrev pub IsNewProgram : State → Pending → Type 0
IsNewProgram s (pending.Program name image text) = contains_key s.programs name ≡ false
IsNewProgram s other = ⊤

-- a storage has the room for what a run leaves: its new keys are in it, with no value
abbrev pub HasRoomForLeft : Storage → Left → Option (Vec (List ℕ) Global) → Storage → Type 0
HasRoomForLeft before (left.Changed changes) (Some keys) now = HasRoom before changes keys.items now
HasRoomForLeft before (left.Changed changes) None now = ⊥
HasRoomForLeft before (left.Begun begun) keys now = now ≡ before

abbrev pub HasRoomForRun : Storage → Option PendingRun → Option (Vec (List ℕ) Global) → Storage → Type 0
HasRoomForRun before None keys now = now ≡ before
HasRoomForRun before (Some run) keys now = HasRoomForLeft before run.left keys now

-- a state has the room for what is pending; a program is in its place already
abbrev pub HasRoomFor : State → Pending → Option (Vec (List ℕ) Global) → State → Type 0
HasRoomFor before (pending.Program name image text) keys now =
    (contains_key before.programs name ≡ false) × (now ≡ record before { programs = insert before.programs name (arc_value image) })
HasRoomFor before (pending.Frame frame) keys now = HasRoomForRun before.store frame.run keys now.store × (now ≡ record before { store = now.store })
HasRoomFor before other keys now = now ≡ before

-- what was pending was made, from the state that it was pending in
abbrev pub IsPendingMade : State → Pending → Answer → State → Type 0
IsPendingMade before (pending.Nothing answer) given after = (given ≡ answer) × (after ≡ before)
IsPendingMade before other given after = IsRequestAnswered (λ _. ⊥) before (turn_of before other) given after

-- it was made; or memory for its room ran out, the answer says so, and nothing changed
abbrev pub IsPendingTaken : State → Pending → Answer → State → Type 0
IsPendingTaken before p (answer.Failed failure) after = (IsPendingMade before p (answer.Failed failure) after) ⊎ (MayWantRoom p failure × (after ≡ before))
IsPendingTaken before p given after = IsPendingMade before p given after

-- ---- what is pending of a request

-- the request that asks for it
abbrev pub IsAskedBy : Ask → Pending → Type 0
IsAskedBy ask (pending.Nothing answer) = ⊤
IsAskedBy ask (pending.Program name image text) = (file : List ℕ) × (ask ≡ Program file) × (name ≡ sha256 file) × (image_of file ≡ Ok (arc_value image))
IsAskedBy ask (pending.Forget name) = ask ≡ Forget name
IsAskedBy ask (pending.Frame frame) = (bytes : List ℕ) × (ask ≡ Frame bytes)
IsAskedBy ask (pending.Begin begin) = (bytes : List ℕ) × (ask ≡ Begin begin.height begin.digest bytes)

-- a change is pending as the request's turn says; memory for its room may run out only if the request may fail so
pub record IsPendingChange (settings : Settings) (s : State) (ask : Ask) (p : Pending) : Type 0 where
  pub turn : turn_of s p ≡ turn settings s ask
  pub room : (failure : Failure) → MayWantRoom p failure → MayTurnFail settings s ask failure
  pub new : IsNewProgram s p
  pub asked : IsAskedBy ask p

-- a request leads to what is pending
abbrev pub IsPending : Settings → State → Ask → Pending → Type 0
IsPending settings s ask (pending.Nothing answer) = IsTurn settings s ask answer s
IsPending settings s ask change = IsPendingChange settings s ask change

-- a request that only reads the state
abbrev pub IsReadRequest : Ask → Type 0
IsReadRequest (Program file) = ⊥
IsReadRequest (Forget name) = ⊥
IsReadRequest (Frame bytes) = ⊥
IsReadRequest (Try bytes) = ⊥
IsReadRequest (Begin height digest bytes) = ⊥
IsReadRequest other = ⊤

-- what is pending is a refusal, or a frame that is refused and counts: it takes no memory
abbrev pub IsPendingRefusal : Pending → Type 0
IsPendingRefusal (pending.Nothing (answer.Refused why)) = ⊤
IsPendingRefusal (pending.Frame frame) = (frame.run ≡ None)
IsPendingRefusal other = ⊥

-- an answer that says that nothing was done: a refusal or a failure
abbrev pub IsUndone : Answer → Type 0
IsUndone (answer.Refused why) = ⊤
IsUndone (answer.Failed failure) = ⊤
IsUndone other = ⊥

-- if nothing is pending of a `begin`, it is refused or fails; a frame is pending only below the greatest height
abbrev pub IsPendingDue : State → Ask → Pending → Type 0
IsPendingDue s (Begin height digest bytes) (pending.Nothing answer) = IsUndone answer
IsPendingDue s (Frame bytes) (pending.Frame frame) = s.height < greatest_height
IsPendingDue s ask p = ⊤
