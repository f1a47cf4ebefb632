-- Private help of proofs: no public clause cites it, except `IsTurn`, `IsRequestAnswered` and `left_of`. How a request is
-- answered stage by stage.
use Rattle.std.specs.Prelude.{◌≡◌, ⊤, ℕ, List, true, false, map, Result, Ok, Err, Option, Some, None, Vec}
use Rattle.std.specs.declared.alloc.Global.{Global}
use Rattle.std.specs.Arc.{arc_value}
use Rattle.std.specs.FinMap.{contains_key}
use Rattle.block_file.specs.Block.{BlockValue, block_value}
use Rattle.block_file.specs.declared.fault.BlockFault.{BlockFault}
use Rattle.elf32.specs.Image.{image_of}
use Rattle.elf32.specs.Layout.{Layout}
use Rattle.overlay.specs.Overlay.{with_changes}
use Rattle.session_requests.specs.Requests.{Ask, Dump}
use Rattle.rv_ledger.specs.Key.{Storage}
use Rattle.byte_streams.specs.Written.{in_memory}
use Rattle.receipts.specs.Buffer.{FinishesText}
use Rattle.receipts.specs.declared.buffer.TextBuffer.{TextBuffer}
use Rattle.session_turns.specs.Failures.{MayTurnFail}
use Rattle.session_turns.specs.Replies.{TurnReply, Done, Refused, Failed}
use Rattle.session_turns.specs.Telling.{dump_text}
use Rattle.receipts.specs.Brief.{receipts_text}
use Rattle.rv_ledger.specs.declared.rules.Rules.{Rules}
use Rattle.rv_step.specs.Fold.{receipts_of, store_after}
use Rattle.programs.specs.Programs.{calls_over}
use Rattle.session_turns.specs.Programs.{ProgramsByName}
use Rattle.session_turns.specs.Turn.{Accepted, Turn, last_reply, storage_for, turn}
use Rattle.session_turns.specs.declared.stages.AcceptedFrame.{AcceptedFrame}
use Rattle.session_turns.specs.declared.stages.Stop.{Stop}
use Rattle.session_turns.specs.declared.stages.Stop.TheVariants as stop
use Rattle.session_turns.specs.declared.answer.Answer.{Answer}
use Rattle.session_turns.specs.declared.answer.Answer.TheVariants as answer
use Rattle.session_turns.specs.declared.refusal.Failure.{Failure}
use Rattle.session_turns.specs.declared.refusal.Failure.TheVariants as failure
use Rattle.session_turns.specs.declared.refusal.FrameRefusal.{FrameRefusal}
use Rattle.session_turns.specs.declared.refusal.FrameRefusal.TheVariants as refusal
use Rattle.session_turns.specs.declared.run.Left.{Left}
use Rattle.session_turns.specs.declared.run.Left.TheVariants as left
use Rattle.session_turns.specs.declared.settings.Settings.{Settings}
use Rattle.session_turns.specs.declared.state.State.{State}

-- the reply of an answer, in the state after it
abbrev pub reply_in : State → Answer → TurnReply
reply_in s (answer.Done bytes) = Done bytes.items
reply_in s answer.Last = last_reply s.last
reply_in s (answer.Storage buffer) = Done (dump_text s.rules s.store)
reply_in s (answer.Refused refusal) = Refused refusal
reply_in s (answer.Failed failure) = Failed failure

-- a request was answered as wanted, and not by the storage; or memory ran out when it may, the answer says so, and nothing
-- changed
abbrev pub IsRequestAnswered : (Failure → Type 0) → State → Turn → Answer → State → Type 0
IsRequestAnswered may_fail s want (answer.Failed failure) after = may_fail failure × (after ≡ s)
IsRequestAnswered may_fail s want (answer.Storage buffer) after = ⊥
IsRequestAnswered may_fail s want given after = (reply_in after given ≡ want.reply) × (after ≡ want.after)

-- a request was answered as its turn says; the storage answers a `dump` alone, and then nothing changed
abbrev pub IsTurn : Settings → State → Ask → Answer → State → Type 0
IsTurn settings s ask (answer.Storage buffer) after = (ask ≡ Dump) × (after ≡ s)
IsTurn settings s ask given after = IsRequestAnswered (MayTurnFail settings s ask) s (turn settings s ask) given after

-- the answer if a stage stopped
abbrev pub stopped_answer : Stop → Answer
stopped_answer (stop.Refused why) = answer.Refused why
stopped_answer (stop.Failed want) = answer.Failed want

-- a stage gave what is wanted, or its refusal; or memory ran out
abbrev pub StageGives : {A X : Type 0} → (A → X → Type 0) → Result A FrameRefusal → Result X Stop → Type 0
StageGives is (Ok wanted) (Ok given) = is wanted given
StageGives is (Err refusal) (Ok given) = ⊥
StageGives is wanted (Err (stop.Failed failure)) = ⊤
StageGives is (Ok wanted) (Err (stop.Refused refusal)) = ⊥
StageGives is (Err wanted) (Err (stop.Refused refusal)) = refusal ≡ wanted

-- the text of a block file was not read: its first fault, or memory ran out before
abbrev pub StopsAt : Result BlockValue BlockFault → Stop → Type 0
StopsAt text (stop.Failed want) = want ≡ failure.Block
StopsAt (Err fault) (stop.Refused why) = why ≡ refusal.Block fault
StopsAt (Ok block) (stop.Refused why) = ⊥

-- a frame that may run
abbrev pub IsAccepted : Accepted → AcceptedFrame → Type 0
IsAccepted wanted frame = (block_value frame.block ≡ wanted.block) × (map arc_value frame.images.items ≡ wanted.images)

-- the storage that a frame leaves
abbrev pub left_of : Storage → Left → Storage
left_of store (left.Changed changes) = with_changes store changes
left_of store (left.Begun begun) = begun

-- memory runs out only if it may
abbrev pub FailsOnlyWhere : {X : Type 0} → (Failure → Type 0) → Result X Stop → Type 0
FailsOnlyWhere may_fail (Err (stop.Failed failure)) = may_fail failure
FailsOnlyWhere may_fail given = ⊤

-- a frame ran: the text of its receipts, its rules, and what it leaves
abbrev pub IsRan : Settings → State → Accepted → Vec ℕ Global × Rules × Left → Type 0
IsRan settings s frame ran =
    (ran.0.items ≡ receipts_text settings.is_brief (receipts_of (calls_over frame.block frame.images) (storage_for s frame)))
    × (ran.1 ≡ frame.block.rules)
    × (left_of s.store ran.2 ≡ store_after (calls_over frame.block frame.images) (storage_for s frame))

-- a frame that was accepted, as the value that is wanted
abbrev pub accepted_value : AcceptedFrame → Accepted
accepted_value frame = record { block = block_value frame.block; images = map arc_value frame.images.items }

-- a program was loaded, unless one of its name is here
abbrev pub IsLoaded : ProgramsByName → List ℕ → List ℕ → Option Layout → Type 0
IsLoaded programs name file None = contains_key programs name ≡ true
IsLoaded programs name file (Some image) = (contains_key programs name ≡ false) × (image_of file ≡ Ok image)

-- a text in memory whose end waited in a buffer is whole
abbrev pub IsFinished : TextBuffer → Vec ℕ Global → Vec ℕ Global → Type 0
IsFinished waiting text whole = FinishesText {X = Unit {0}} in_memory (Ok tt) waiting text whole
