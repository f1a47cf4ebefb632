-- When this machine may run out of memory: for a stage of a request only if no earlier stage refuses.
use Rattle.std.specs.Prelude.{◌≡◌, ◌≢◌, ◌<◌, ◌⊎◌, ⊤, ℕ, List, false, nat_lt, length, IfErr, IsOk}
use Rattle.programs.specs.Programs.{file_limit}
use Rattle.rv_ledger.specs.Height.{greatest_height}
use Rattle.session_requests.specs.Requests.{Ask, Program, Programs, Frame, Try, Get, ListEntries, Dump, Begin, State as AskState}
use Rattle.session_turns.specs.Turn.{accepted, program_turn, turn}
use Rattle.session_turns.specs.Replies.{Failed, Refused, turn_reply_text}
use Rattle.session_turns.specs.declared.refusal.Failure.{Failure}
use Rattle.session_turns.specs.declared.refusal.Failure.TheVariants as want
use Rattle.session_turns.specs.declared.refusal.FrameRefusal.{FrameRefusal}
use Rattle.session_turns.specs.declared.refusal.FrameRefusal.TheVariants.{NoProgram}
use Rattle.session_turns.specs.declared.settings.Settings.{Settings}
use Rattle.session_turns.specs.declared.state.State.{State}

-- a frame that may run at this height: for its body and text if it is not too long; for its programs if no earlier stage refuses;
-- for its run and its answer if no stage refuses
abbrev pub MayFailFrame : Settings → State → List ℕ → Failure → Type 0
MayFailFrame settings s bytes want.Block = nat_lt settings.frame_limit (length bytes) ≡ false
MayFailFrame settings s bytes want.Program = IfErr (accepted settings s bytes) (λ refusal. refusal ≡ NoProgram)
MayFailFrame settings s bytes want.Run = IsOk (accepted settings s bytes)
MayFailFrame settings s bytes want.Answer = IsOk (accepted settings s bytes)

abbrev pub MayTurnFail : Settings → State → Ask → Failure → Type 0
MayTurnFail settings s (Frame bytes) failure = (s.height < greatest_height) × MayFailFrame settings s bytes failure
MayTurnFail settings s (Try bytes) failure = (s.height < greatest_height) × MayFailFrame settings s bytes failure
MayTurnFail settings s (Program file) want.Program = nat_lt file_limit (length file) ≡ false
MayTurnFail settings s (Program file) want.Answer = (refusal : FrameRefusal) → (program_turn s file).reply ≢ Refused refusal
MayTurnFail settings s (Begin height digest bytes) want.Block = ⊤
MayTurnFail settings s Programs want.Answer = ⊤
MayTurnFail settings s (Get key) want.Answer = ⊤
MayTurnFail settings s (ListEntries from count) want.Answer = ⊤
MayTurnFail settings s AskState want.Answer = ⊤
MayTurnFail settings s Dump want.Answer = ⊤
MayTurnFail settings s ask failure = ⊥

-- a request was answered as its turn says
abbrev pub IsAnsweredAsTurn : Settings → State → Ask → List ℕ → State → Type 0
IsAnsweredAsTurn settings s ask text after = (text ≡ turn_reply_text (turn settings s ask).reply) × (after ≡ (turn settings s ask).after)

-- it was answered so; or memory ran out when it may, the answer says so, and nothing changed
abbrev pub IsAnswer : Settings → State → Ask → List ℕ → State → Type 0
IsAnswer settings s ask text after =
    IsAnsweredAsTurn settings s ask text after ⊎ ((failure : Failure) × MayTurnFail settings s ask failure × (text ≡ turn_reply_text (Failed failure)) × (after ≡ s))
