-- Private help of proofs: public clauses cite only `IsKeptBy`, and a session over a file what is said of one below. How a change is
-- staged and kept, and what a request is answered.
use Rattle.std.specs.Prelude.{◌≡◌, ◌⊎◌, ⊤, ℕ, Bool, true, false, List, Option, Some, None, Result, Ok, Err, IfErr, IfOk, OnErr, OnOk}
use Rattle.std.specs.Option.{option_map}
use Rattle.session_requests.specs.Requests.{Ask}
use Rattle.session_file.specs.Kept.{Kept}
use Rattle.session_file.specs.Opening.{answer_parts}
use Rattle.session_file.specs.Staging.{IsKeeping, IsStaged, Lasts, StagesIn, StagesWhere}
use Rattle.session_file.specs.declared.rows.AnswerRow.{AnswerRow}
use Rattle.session_states.specs.States.{FileState, KeepsState, file_state, last_of, kept_text}
use Rattle.session_states.specs.Faults.{fault_of_store}
use Rattle.session_states.specs.declared.fault.StoreFault.{StoreFault}
use Rattle.session_states.specs.declared.fault.StoreFault.TheVariants.{Memory}
use Rattle.sqlite_disk.specs.Disk.{MoreFaults}
use Rattle.sqlite_trees.specs.Tree.{Trees}
use Rattle.sqlite_trees.specs.View.{View, HasCause, IsClean}
use Rattle.sqlite_trees.specs.declared.error.StoreError.{StoreError}
use Rattle.sqlite_trees.specs.declared.store.Store.{Ghosts}
use Rattle.rv_ledger.specs.Key.{Storage}
use Rattle.session_turns.specs.Pending.{IsPendingMade, MayWantRoom, after_run_of, turn_of}
use Rattle.session_turns.specs.Replies.{turn_reply_text}
use Rattle.session_turns.specs.Stages.{reply_in}
use Rattle.session_turns.specs.declared.answer.Answer.{Answer}
use Rattle.session_turns.specs.declared.answer.Answer.TheVariants as answer
use Rattle.session_turns.specs.declared.pending.Pending.{Pending}
use Rattle.session_turns.specs.declared.pending.Pending.TheVariants as pending
use Rattle.session_turns.specs.declared.pending.PendingRun.{PendingRun}
use Rattle.session_turns.specs.declared.settings.Settings.{Settings}
use Rattle.session_turns.specs.declared.state.State.{State}
use Rattle.session_durability.specs.Durable.{FileMoment, HoldsState, IsBeyondFormat, IsFileAnswer, IsLeft, IsShutBy, failed_store, file_turn, last_text, moment}
use Rattle.session_durability.specs.declared.keeping.KeepFault.{KeepFault}
use Rattle.session_durability.specs.declared.keeping.KeepFault.TheVariants.{Room, Store}
use Rattle.session_durability.specs.declared.reply.FileReply.{FileReply}
use Rattle.session_durability.specs.declared.reply.FileReply.TheVariants.{Turn, Last, Failed}
use Rattle.session_durability.specs.declared.session.FileSession.{FileSession}

-- a file keeps a session while it is open, and nothing is staged
abbrev pub IsKeptBy : Settings → View → FileState → Type 0
IsKeptBy settings v f = (k : Kept) × KeepsState settings f k × IsKeeping v k

-- a state in memory with the last answer as a file has it
abbrev pub over : State → Option (List ℕ × List ℕ) → FileState
over s last = record { state = record s { last = None }; last = last }

-- the last answer after what is pending
abbrev pub pending_last : Option (List ℕ × List ℕ) → Pending → Option (List ℕ × List ℕ)
pending_last last (pending.Frame frame) = Some (kept_text frame.answer)
pending_last last (pending.Begin begin) = None
pending_last last other = last

-- the session after what is pending
abbrev pub next_state : FileState → Pending → FileState
next_state f p = over (turn_of f.state p).after (pending_last f.last p)

-- what is pending of a state was staged in a file that keeps it
abbrev pub IsPendingStaged : Settings → State → Pending → View → View → Type 0
IsPendingStaged settings s p old new = (last : Option (List ℕ × List ℕ)) (k : Kept) → KeepsState settings (over s last) k → IsKeeping old k
    → (staged : Kept) × KeepsState settings (next_state (over s last) p) staged × IsStaged new k staged

-- a file that keeps a state keeps it still, and nothing is staged
abbrev pub Spares : Settings → State → View → View → Type 0
Spares settings s old new = (last : Option (List ℕ × List ℕ)) (k : Kept) → KeepsState settings (over s last) k → IsKeeping old k → IsKeeping new k

-- what a run leaves of a storage was staged, if there was one
abbrev pub StagesRun : Storage → Option PendingRun → View → View → Type 0
StagesRun base run old new = (s : State) → s.store ≡ base → StagesWhere (λ next. next.storage ≡ base) (λ next. record next { storage = (after_run_of s run).store }) old new

-- the format has no room for what is pending
abbrev pub IsBeyond : Settings → State → Pending → Type 0
IsBeyond settings s p = (last : Option (List ℕ × List ℕ)) → IsBeyondFormat settings (next_state (over s last) p)

-- what is pending was staged, or that was refused
abbrev pub StagesPending : {S A : Type 0} → Ghosts S → Settings → State → Pending → S → S → Result A StoreError → Type 0
StagesPending g settings s p old new result = StagesIn g (IsPendingStaged settings s p) (Spares settings s) (IsBeyond settings s p) old new result

-- the answer that was found in the file, after what is pending
abbrev pub IsFoundBehind : Pending → Option AnswerRow → Option AnswerRow → Type 0
IsFoundBehind (pending.Begin begin) found later = later ≡ None
IsFoundBehind other found later = later ≡ found

-- the file failed for this cause, if `disk` says that the disk failed meanwhile, and `limit` that the format has no room
abbrev pub IsKeepCause : View → Type 0 → Type 0 → KeepFault → Type 0
IsKeepCause v disk limit (Room failure) = ⊤
IsKeepCause v disk limit (Store error) = HasCause v disk limit error

-- memory ran out, and what is pending needs room; or the file failed
abbrev pub MayFailToKeep : Pending → KeepFault → Type 0
MayFailToKeep p (Room failure) = MayWantRoom p failure
MayFailToKeep p (Store error) = ⊤

-- the text of an answer
abbrev pub reply_text : State → Option AnswerRow → FileReply → List ℕ
reply_text s found (Turn answer) = turn_reply_text (reply_in s answer)
reply_text s found Last = last_text (last_of s.last (option_map answer_parts found))
reply_text s found (Failed fault) = failed_store fault

-- a crash leaves what it left before, or what a request leaves
abbrev pub Leaves : Settings → FileState → Ask → (Trees → Type 0) → (Trees → Type 0) → Type 0
Leaves settings f ask was now = (db : Trees) → now db → was db ⊎ HoldsState settings (file_turn settings f ask).1 db

-- a request was answered by this text, or shut the file
abbrev pub AnswersOrShutsFile : Settings → FileMoment → Ask → Result FileReply StoreFault → State → Option AnswerRow → FileMoment → Type 0
AnswersOrShutsFile settings f ask (Ok reply) s found after = IsFileAnswer settings f ask (reply_text s found reply) after
AnswersOrShutsFile settings f ask (Err fault) s found after = IsShutBy settings f ask fault after

-- what comes of a change that was not kept
abbrev pub unkept_reply : Bool → KeepFault → Result FileReply StoreFault
unkept_reply true (Room failure) = Err Memory
unkept_reply true (Store error) = Err (fault_of_store error)
unkept_reply false (Room failure) = Ok (Turn (answer.Failed failure))
unkept_reply false (Store error) = Ok (Failed (fault_of_store error))

-- ---- a session over a file

-- the state that its file keeps
abbrev pub state_kept : {S : Type 0} → FileSession S → FileState
state_kept s = file_state s.state s.found

-- its moment
abbrev pub file_moment_of : {S : Type 0} → Ghosts S → FileSession S → FileMoment
file_moment_of g s = moment (state_kept s) (g.view s.file) (g.faults s.file)

-- its file keeps it
abbrev pub IsKeptIn : {S : Type 0} → Ghosts S → Settings → FileSession S → Type 0
IsKeptIn g settings s = IsKeptBy settings (g.view s.file) (state_kept s)

-- no failure waits for a rollback
abbrev pub IsUnbroken : {S : Type 0} → Ghosts S → FileSession S → Type 0
IsUnbroken g s = IsClean (g.view s.file) → (g.view s.file).is_broken ≡ false

-- What is pending was kept: the request has its answer, and the session is the one after it. Or it was refused: the session is as it
-- was, and the refusal has a cause. Either way the file keeps the session, and a crash leaves what it could leave before, or the
-- session after the request.
pub record KeepsPending {S : Type 0} (g : Ghosts S) (settings : Settings) (p : Pending) (old new : FileSession S) (result : Result Answer KeepFault) : Type 0 where
  pub ok : IfOk result (λ given. IsPendingMade old.state p given new.state)
  pub next : OnOk result (state_kept new ≡ next_state (state_kept old) p)
  pub same : OnErr result ((new.state ≡ old.state) × (new.found ≡ old.found))
  pub room : IfErr result (MayFailToKeep p)
  pub cause : IsClean (g.view new.file) → IfErr result (IsKeepCause (g.view old.file) (MoreFaults (g.faults old.file) (g.faults new.file)) (IsBeyond settings old.state p))
  pub kept : IsKeptIn g settings new
  pub sound : OnOk result (IsUnbroken g new)
  pub crash : (db : Trees) → g.recovers new.file db → g.recovers old.file db ⊎ HoldsState settings (next_state (state_kept old) p) db
  pub lasts : Lasts g old.file new.file

-- what a crash of it may leave, unless the disk lied
abbrev pub MayLeave : {S : Type 0} → Ghosts S → Settings → FileSession S → List Ask → FileSession S → Type 0
MayLeave g settings old rest now = IsClean (g.view now.file) → IsLeft settings (g.recovers now.file) (state_kept old) rest

-- a request was answered, or it shut the file; and a crash leaves the session before it or after it
abbrev pub IsDoneIn : {S : Type 0} → Ghosts S → Settings → FileSession S → Ask → Result FileReply StoreFault → FileSession S → Type 0
IsDoneIn g settings old ask result new =
    AnswersOrShutsFile settings (file_moment_of g old) ask result new.state new.found (file_moment_of g new)
    × Leaves settings (state_kept old) ask (g.recovers old.file) (g.recovers new.file)
