-- A request that failed.
use Rattle.std.proofs.Common.{◌≡◌, ◌<◌, ℕ, Bool, true, false, cond, List, get_or, Option, Some, None, Result, Ok, Err, inl, inr, sym, ap, arith}
use Rattle.std.specs.Prelude.{⊤, length, nat_le, nat_lt}
use Rattle.std.specs.FinMap.{contains_key}
use Rattle.elf32.specs.Layout.{Layout}
use Rattle.block_file.specs.Block.{BlockValue}
use Rattle.rv_ledger.specs.Height.{greatest_height}
use Rattle.sha2.specs.Sha256.{sha256}
use Rattle.programs.specs.Programs.{file_limit}
use Rattle.session_requests.specs.Requests.{Ask, Program, Forget, Programs, Frame, Try, Last, Get, ListEntries, Dump, Begin, Quit, State as AskState}
use Rattle.session_turns.specs.Failures.{IsAnswer}
use Rattle.session_turns.specs.Replies.{Done, Failed, Refused, TurnReply, turn_reply_text, refused_or_done}
use Rattle.session_turns.specs.Turn.{Accepted, Turn, accepted, begun_with, frame_answer, last_reply, named_turn, handed_program, turn, turn_with_program}
use Rattle.session_turns.specs.declared.kept.KeptAnswer.{KeptAnswer}
use Rattle.session_turns.specs.declared.refusal.Failure.{Failure}
use Rattle.session_turns.specs.declared.refusal.FrameRefusal.{FrameRefusal}
use Rattle.session_turns.specs.declared.settings.Settings.{Settings}
use Rattle.session_turns.specs.declared.state.State.{State}

-- a reply that is no failure
abbrev Tells : TurnReply → Type 0
Tells (Failed failure) = ⊥
Tells other = ⊤

either : (b : Bool) (x y : Turn) → Tells x.reply → Tells y.reply → Tells (cond b x y).reply
either true x y h k = h
either false x y h k = k

kept : (refusal : Option FrameRefusal) (bytes : List ℕ) → Tells (refused_or_done refusal bytes)
kept None bytes = tt
kept (Some refusal) bytes = tt

last : (o : Option KeptAnswer) → Tells (last_reply o)
last None = tt
last (Some answer) = kept answer.refusal answer.bytes

loaded : (s : State) (name : List ℕ) (r : Result Layout FrameRefusal) → Tells (turn_with_program s name r).reply
loaded s name (Ok image) = tt
loaded s name (Err refusal) = tt

framed : (settings : Settings) (s : State) (r : Result Accepted FrameRefusal) → Tells (frame_answer settings s r).reply
framed settings s (Ok frame) = tt
framed settings s (Err refusal) = tt

begun : (s : State) (height : ℕ) (digest : Option (List ℕ)) (r : Result BlockValue FrameRefusal) → Tells (begun_with s height digest r).reply
begun s height digest (Ok block) = tt
begun s height digest (Err refusal) = tt

turns : (settings : Settings) (s : State) (ask : Ask) → Tells (turn settings s ask).reply
turns settings s (Program file) = either (nat_lt file_limit (length file)) _ (named_turn s (sha256 file) file) tt (either (contains_key s.programs (sha256 file)) _ (turn_with_program s (sha256 file) (handed_program file)) tt (loaded s (sha256 file) (handed_program file)))
turns settings s (Forget name) = either (contains_key s.programs name) _ _ tt tt
turns settings s Programs = tt
turns settings s (Frame bytes) = either (nat_le greatest_height s.height) _ (frame_answer settings s (accepted settings s bytes)) tt (framed settings s (accepted settings s bytes))
turns settings s (Try bytes) = either (nat_le greatest_height s.height) _ (frame_answer settings s (accepted settings s bytes)) tt (framed settings s (accepted settings s bytes))
turns settings s Last = last s.last
turns settings s (Get key) = tt
turns settings s (ListEntries from count) = tt
turns settings s Dump = tt
turns settings s (Begin height digest bytes) = begun s height digest _
turns settings s AskState = tt
turns settings s Quit = tt

other_byte : (m n : ℕ) → m ≡ n → n < m → ⊥
other_byte m n e less = omega arith

-- no other answer begins as that of a failure
no_failure : (reply : TurnReply) (failure : Failure) → Tells reply → turn_reply_text reply ≡ turn_reply_text (Failed failure) → ⊥
no_failure (Done bytes) failure h e = other_byte 111 102 (ap (λ (t : List ℕ). get_or t 0 0) e) (omega arith)
no_failure (Refused refusal) failure h e = other_byte 114 102 (ap (λ (t : List ℕ). get_or t 0 0) e) (omega arith)
no_failure (Failed other) failure h e = absurd h

pub nothing_changes : (settings : Settings) (s after : State) (ask : Ask) (failure : Failure) → IsAnswer settings s ask (turn_reply_text (Failed failure)) after → after ≡ s
nothing_changes settings s after ask failure (inl (is, leads)) = absurd (no_failure (turn settings s ask).reply failure (turns settings s ask) (sym is))
nothing_changes settings s after ask failure (inr (other, may, is, same)) = same
