-- The turns of a session over a file, and those of its state in memory.
use Rattle.std.proofs.Common.{◌≡◌, ◌≢◌, ◌+◌, ℕ, List, Bool, true, false, cond, length, Option, None, Result, Ok, Err, inl, inr, refl, sym, ap, subst, ◌∙◌, arith}
use Rattle.std.specs.Prelude.{nat_le, nat_lt}
use Rattle.std.specs.FinMap.{contains_key}
use Rattle.rv_ledger.specs.Height.{greatest_height}
use Rattle.sha2.specs.Sha256.{sha256}
use Rattle.elf32.specs.Layout.{Layout}
use Rattle.programs.specs.Programs.{file_limit}
use Rattle.session_requests.specs.Requests.{Ask, Program, Forget, Frame, Last, Begin}
use Rattle.session_laws.specs.Begun.{EqualButLast}
use Rattle.session_laws.proofs.Alike.{after_alike, reply_alike}
use Rattle.session_states.specs.States.{FileState, last_of}
use Rattle.sqlite_trees.specs.View.{View}
use Rattle.session_turns.specs.Failures.{MayTurnFail}
use Rattle.session_turns.specs.Pending.{IsPendingDue, IsUndone}
use Rattle.session_turns.specs.Replies.{Done, Refused, TurnReply, turn_reply_text}
use Rattle.session_turns.specs.Stages.{IsTurn, reply_in}
use Rattle.session_turns.specs.Telling.{dump_text}
use Rattle.session_turns.specs.Turn.{Accepted, Turn, accepted, frame_answer, named_turn, handed_program, program_turn, told, turn, turn_with_program}
use Rattle.session_turns.specs.declared.answer.Answer.{Answer}
use Rattle.session_turns.specs.declared.answer.Answer.TheVariants as answer
use Rattle.session_turns.specs.declared.kept.KeptAnswer.{KeptAnswer}
use Rattle.session_turns.specs.declared.pending.Pending.TheVariants as pending
use Rattle.session_turns.specs.declared.refusal.Failure.{Failure}
use Rattle.session_turns.specs.declared.refusal.Failure.TheVariants as want
use Rattle.session_turns.specs.declared.refusal.FrameRefusal.{FrameRefusal}
use Rattle.session_turns.specs.declared.refusal.FrameRefusal.TheVariants.{FileTooLong, NoProgram, TooHigh}
use Rattle.session_turns.specs.declared.settings.Settings.{Settings}
use Rattle.session_turns.specs.declared.state.State.{State}
use Rattle.session_durability.specs.Durable.{IsFileAnswer, IsFileReply, last_behind, last_if_begun, moment}
use Rattle.session_durability.specs.Keeping.{over}

-- ---- a state without its last answer

abbrev pub bare : State → State
bare s = record s { last = None }

pub bare_alike : (s : State) → EqualButLast s (bare s)
bare_alike s = record { store = refl; rules = refl; height = refl; digest = refl; programs = refl }

pub same_bare : (a b : State) → EqualButLast a b → bare a ≡ bare b
same_bare a b e = λ j. record {
  store = e.store j;
  rules = e.rules j;
  height = e.height j;
  digest = e.digest j;
  programs = e.programs j;
  last = None;
}

-- ---- the last answer after a turn that counts no frame

either : (b : Bool) (x y : Turn) (last : Option KeptAnswer) → x.after.last ≡ last → y.after.last ≡ last → (cond b x y).after.last ≡ last
either true x y last h k = h
either false x y last h k = k

loaded_last : (s : State) (name : List ℕ) (r : Result Layout FrameRefusal) → (turn_with_program s name r).after.last ≡ s.last
loaded_last s name (Ok image) = refl
loaded_last s name (Err refusal) = refl

pub program_last : (s : State) (file : List ℕ) → (program_turn s file).after.last ≡ s.last
program_last s file = either (nat_lt file_limit (length file)) (told s (Refused FileTooLong)) (named_turn s (sha256 file) file) s.last refl
    (either (contains_key s.programs (sha256 file)) (told s (Done _)) (turn_with_program s (sha256 file) (handed_program file)) s.last refl (loaded_last s (sha256 file) (handed_program file)))

pub forget_last : (settings : Settings) (s : State) (name : List ℕ) → (turn settings s (Forget name)).after.last ≡ s.last
forget_last settings s name = either (contains_key s.programs name) _ (told s (Refused NoProgram)) s.last refl refl

next_height : (n : ℕ) → n + 1 ≡ n → ⊥
next_height n e = omega arith

-- a frame after which all is as it was
uncounted : (settings : Settings) (s : State) (last : Option (List ℕ × List ℕ)) (high : Bool) (wanted : Result Accepted FrameRefusal)
    → (cond high (told s (Refused TooHigh)) (frame_answer settings s wanted)).after ≡ s
    → last_of (cond high (told (bare s) (Refused TooHigh)) (frame_answer settings (bare s) wanted)).after.last last ≡ last
uncounted settings s last true wanted is = refl
uncounted settings s last false (Ok frame) is = absurd (next_height s.height (ap (λ (z : State). z.height) is))
uncounted settings s last false (Err refusal) is = absurd (next_height s.height (ap (λ (z : State). z.height) is))

undone_begin : (s : State) (last : Option (List ℕ × List ℕ)) (given : Answer) (height : ℕ) (digest : Option (List ℕ)) (bytes : List ℕ) (reply : TurnReply)
    → IsUndone given → reply ≡ reply_in s given → ((failure : Failure) → given ≡ answer.Failed failure → ⊥) → last_if_begun last reply ≡ last
undone_begin s last (answer.Refused refusal) height digest bytes reply h is failed = ap (last_if_begun last) is
undone_begin s last (answer.Failed failure) height digest bytes reply h is failed = absurd (failed failure refl)
undone_begin s last other height digest bytes reply h is failed = absurd h

-- the last answer after a turn that changes nothing
unchanged_last : (settings : Settings) (s : State) (last : Option (List ℕ × List ℕ)) (ask : Ask) (given : Answer) → ask ≢ Last → IsPendingDue s ask (pending.Nothing given)
    → ((failure : Failure) → given ≡ answer.Failed failure → ⊥) → (turn settings (bare s) ask).reply ≡ reply_in s given → (turn settings s ask).after ≡ s
    → last_behind last ask (turn settings (bare s) ask) ≡ last
unchanged_last settings s last (Program file) given other h failed reply is = ap (λ (o : Option KeptAnswer). last_of o last) (program_last (bare s) file)
unchanged_last settings s last (Forget name) given other h failed reply is = ap (λ (o : Option KeptAnswer). last_of o last) (forget_last settings (bare s) name)
unchanged_last settings s last (Frame bytes) given other h failed reply is = uncounted settings s last (nat_le greatest_height s.height) (accepted settings s bytes) is
unchanged_last settings s last Last given other h failed reply is = absurd (other refl)
unchanged_last settings s last (Begin height digest bytes) given other h failed reply is = undone_begin s last given height digest bytes (turn settings (bare s) (Begin height digest bytes)).reply h reply failed
unchanged_last settings s last ask given other h failed reply is = refl

-- ---- want of memory

pub may_fail_bare : (settings : Settings) (s : State) (ask : Ask) (failure : Failure) → MayTurnFail settings s ask failure → MayTurnFail settings (bare s) ask failure
may_fail_bare settings s (Program file) want.Answer h = λ refusal e. h refusal (reply_alike settings s (bare s) (Program file) (bare_alike s) (λ x. cc) ∙ e)
may_fail_bare settings s (Frame bytes) want.Block h = h
may_fail_bare settings s (Frame bytes) want.Program h = h
may_fail_bare settings s (Frame bytes) want.Run h = h
may_fail_bare settings s ask failure h = h

-- ---- answers by which nothing changes

-- a request is answered so while nothing changes
abbrev pub Stays : Settings → FileState → Ask → List ℕ → Type 0
Stays settings f ask text = (faults : ℕ) (is_clean : Bool) → IsFileReply settings (record { session = f; faults = faults; is_clean = is_clean }) ask text (record { session = f; faults = faults; is_clean = is_clean })

-- so it is answered at a moment
pub stays_at : (settings : Settings) (f : FileState) (ask : Ask) (text : List ℕ) (v : View) (faults : ℕ) → Stays settings f ask text → IsFileAnswer settings (moment f v faults) ask text (moment f v faults)
stays_at settings f ask text v faults stays = (record { faults = omega arith; clean = omega arith }, stays faults v.is_clean)

by_turn : (settings : Settings) (s : State) (last : Option (List ℕ × List ℕ)) (ask : Ask) (given : Answer) → ask ≢ Last → IsPendingDue s ask (pending.Nothing given)
    → ((failure : Failure) → given ≡ answer.Failed failure → ⊥) → reply_in s given ≡ (turn settings s ask).reply → s ≡ (turn settings s ask).after
    → Stays settings (over s last) ask (turn_reply_text (reply_in s given))
by_turn settings s last Last given other h failed reply is = absurd (other refl)
by_turn settings s last ask given other h failed reply is =
    let same : (turn settings (bare s) ask).reply ≡ reply_in s given = sym (reply ∙ reply_alike settings s (bare s) ask (bare_alike s) other) in
    λ faults is_clean. inl (
      ap turn_reply_text (sym same),
      λ j. record {
        state = (ap bare is ∙ same_bare (turn settings s ask).after (turn settings (bare s) ask).after (after_alike settings s (bare s) ask (bare_alike s))) j;
        last = sym (unchanged_last settings s last ask given other h failed same (sym is)) j;
      },
    )

-- an answer by which nothing changes
pub told_answer : (settings : Settings) (s : State) (last : Option (List ℕ × List ℕ)) (ask : Ask) (given : Answer) → IsTurn settings s ask given s → IsPendingDue s ask (pending.Nothing given) → ask ≢ Last
    → Stays settings (over s last) ask (turn_reply_text (reply_in s given))
told_answer settings s last ask (answer.Failed failure) is due other = λ faults is_clean. inr (inl (failure, may_fail_bare settings s ask failure is.0, refl, refl))
told_answer settings s last ask (answer.Storage buffer) is due other =
    subst (λ (a : Ask). Stays settings (over s last) a (turn_reply_text (Done (dump_text s.rules s.store)))) (sym is.0) (λ faults is_clean. inl (refl, refl))
told_answer settings s last ask (answer.Done bytes) is due other = by_turn settings s last ask (answer.Done bytes) other due (λ failure e. cc) is.0 is.1
told_answer settings s last ask answer.Last is due other = by_turn settings s last ask answer.Last other due (λ failure e. cc) is.0 is.1
told_answer settings s last ask (answer.Refused why) is due other = by_turn settings s last ask (answer.Refused why) other due (λ failure e. cc) is.0 is.1
