-- Sessions that differ at most in their last answer.
use Rattle.std.proofs.Common.{◌≡◌, ◌≢◌, ◌<◌, ℕ, List, [], ◌∷◌, ◌++◌, length, Bool, true, false, not, ◌||◌, nat_lt, nat_le, Option, None, Result, Ok, Err, refl, sym, ap, subst, ◌∙◌, arith, if◌then◌else◌}
use Rattle.std.specs.FinMap.{contains_key, insert, remove}
use Rattle.std.specs.Result.{result_map_both}
use Rattle.std.proofs.lemmas.Bool.Decides.{nat_tests}
use Rattle.rv_ledger.specs.Height.{greatest_height}
use Rattle.sha2.specs.Sha256.{sha256}
use Rattle.block_file.specs.Block.{BlockValue, parsed_block}
use Rattle.block_file.specs.declared.fault.BlockFault.{BlockFault}
use Rattle.elf32.specs.Layout.{Layout}
use Rattle.programs.specs.Programs.{file_limit}
use Rattle.session_requests.specs.Requests.{Ask, Program, Forget, Frame, Try, Last, Begin}
use Rattle.session_turns.specs.Replies.{TurnReply, Done, Refused, turn_reply_text}
use Rattle.session_turns.specs.Telling.{names_text}
use Rattle.session_turns.specs.Turn.{Accepted, Turn, ◌>>=◌, accepted, agree, begun_with, frame_answer, is_dump, handed_program, told, turn, unless, turn_with_program}
use Rattle.session_turns.specs.declared.kept.KeptAnswer.{KeptAnswer}
use Rattle.session_turns.specs.declared.refusal.FrameRefusal.{FrameRefusal}
use Rattle.session_turns.specs.declared.refusal.FrameRefusal.TheVariants.{Block, FileTooLong, NoProgram, NotADump, OtherDigest, TooHigh}
use Rattle.session_turns.specs.declared.settings.Settings.{Settings}
use Rattle.session_turns.specs.declared.state.State.{State}
use Rattle.session_laws.specs.Begun.{EqualButLast, asks_last_late}
use Rattle.session_serving.specs.Serving.{answers_in_turn, state_after}

-- ---- a state with another last answer

abbrev with_last : State → Option KeptAnswer → State
with_last s last = record s { last = last }

other_last : (s : State) (last : Option KeptAnswer) → EqualButLast s (with_last s last)
other_last s last = record { store = refl; rules = refl; height = refl; digest = refl; programs = refl }

is_with_last : (s t : State) → EqualButLast s t → with_last s t.last ≡ t
is_with_last s t e = λ j. record {
  store = e.store j;
  rules = e.rules j;
  height = e.height j;
  digest = e.digest j;
  programs = e.programs j;
  last = t.last;
}

equal_but_last : {s t : State} → s ≡ t → EqualButLast s t
equal_but_last e = record {
  store = ap (λ (u : State). u.store) e;
  rules = ap (λ (u : State). u.rules) e;
  height = ap (λ (u : State). u.height) e;
  digest = ap (λ (u : State). u.digest) e;
  programs = ap (λ (u : State). u.programs) e;
}

-- ---- a request

-- the block that `begin` takes, or its refusal; `agrees` says whether a digest comes exactly if one is kept
abbrev pub begun_block : Bool → Result BlockValue BlockFault → Result BlockValue FrameRefusal
begun_block agrees text = result_map_both (λ block. block) Block text >>= (λ block.
    unless (not (is_dump block)) NotADump (
    unless (not agrees) OtherDigest (Ok block)))

-- two turns have the same reply, and what they leave differs at most in the last answer
abbrev IsAlike : Turn → Turn → Type 0
IsAlike a b = (a.reply ≡ b.reply) × EqualButLast a.after b.after

-- if two turns have the same reply, and the answers after them are the same, then all answers are the same
one_more : (settings : Settings) (a b : Turn) (asks : List Ask) → IsAlike a b → answers_in_turn settings a.after asks ≡ answers_in_turn settings b.after asks
    → turn_reply_text a.reply ++ answers_in_turn settings a.after asks ≡ turn_reply_text b.reply ++ answers_in_turn settings b.after asks
one_more settings a b asks alike rest =
    ap (λ (reply : TurnReply). turn_reply_text reply ++ answers_in_turn settings a.after asks) alike.0 ∙ ap (λ (text : List ℕ). turn_reply_text b.reply ++ text) rest

module _ (s : State) (last : Option KeptAnswer) where
  abbrev twin : State
  twin = with_last s last

  alike_told : (reply : TurnReply) → IsAlike (told s reply) (told twin reply)
  alike_told reply = (refl, other_last s last)

  loaded : (name : List ℕ) (image : Result Layout FrameRefusal) → IsAlike (turn_with_program s name image) (turn_with_program twin name image)
  loaded name (Err refusal) = alike_told (Refused refusal)
  loaded name (Ok image) = (refl, other_last (record s { programs = insert s.programs name image }) last)

  -- a program that is too long, or here, or neither
  handed_in : (long here : Bool) (name : List ℕ) (image : Result Layout FrameRefusal)
      → IsAlike
      (if long then told s (Refused FileTooLong) else if here then told s (Done (names_text (name ∷ []))) else turn_with_program s name image)
      (if long then told twin (Refused FileTooLong) else if here then told twin (Done (names_text (name ∷ []))) else turn_with_program twin name image)
  handed_in true here name image = alike_told (Refused FileTooLong)
  handed_in false true name image = alike_told (Done (names_text (name ∷ [])))
  handed_in false false name image = loaded name image

  forgotten : (here : Bool) (left : State)
      → IsAlike
      (if here then record { reply = Done []; after = left } else told s (Refused NoProgram))
      (if here then record { reply = Done []; after = with_last left last } else told twin (Refused NoProgram))
  forgotten true left = (refl, other_last left last)
  forgotten false left = alike_told (Refused NoProgram)

  begun : (height : ℕ) (digest : Option (List ℕ)) (block : Result BlockValue FrameRefusal) → IsAlike (begun_with s height digest block) (begun_with twin height digest block)
  begun height digest (Err refusal) = alike_told (Refused refusal)
  begun height digest (Ok block) = (refl, equal_but_last refl)

  -- a frame that counts leaves the same state
  counts_alike : (settings : Settings) (wanted : Result Accepted FrameRefusal) → frame_answer settings s wanted ≡ frame_answer settings twin wanted
  counts_alike settings (Ok frame) = refl
  counts_alike settings (Err refusal) = refl

  abbrev framed : State → Settings → Bool → Result Accepted FrameRefusal → Turn
  framed u settings high wanted = if high then told u (Refused TooHigh) else frame_answer settings u wanted

  frame_counts : (settings : Settings) (high : Bool) (wanted : Result Accepted FrameRefusal) → high ≡ false → framed s settings high wanted ≡ framed twin settings high wanted
  frame_counts settings false wanted low = counts_alike settings wanted
  frame_counts settings true wanted low = cc

  frame_alike : (settings : Settings) (high : Bool) (wanted : Result Accepted FrameRefusal) → IsAlike (framed s settings high wanted) (framed twin settings high wanted)
  frame_alike settings true wanted = alike_told (Refused TooHigh)
  frame_alike settings false wanted = let same = counts_alike settings wanted in (ap (λ (u : Turn). u.reply) same, equal_but_last (ap (λ (u : Turn). u.after) same))

  frame_high : (settings : Settings) (high : Bool) (wanted : Result Accepted FrameRefusal) → high ≡ true → (framed s settings high wanted).after ≡ s
  frame_high settings true wanted h = refl
  frame_high settings false wanted h = cc

  turn_alike : (settings : Settings) (ask : Ask) → ask ≢ Last → IsAlike (turn settings s ask) (turn settings twin ask)
  turn_alike settings (Program file) other = handed_in (nat_lt file_limit (length file)) (contains_key s.programs (sha256 file)) (sha256 file) (handed_program file)
  turn_alike settings (Forget name) other = forgotten (contains_key s.programs name) (record s { programs = remove s.programs name })
  turn_alike settings (Frame bytes) other = frame_alike settings (nat_le greatest_height s.height) (accepted settings s bytes)
  turn_alike settings (Try bytes) other = ((frame_alike settings (nat_le greatest_height s.height) (accepted settings s bytes)).0, other_last s last)
  turn_alike settings Last other = absurd (other refl)
  turn_alike settings (Begin height digest bytes) other = begun height digest (begun_block (agree digest s.digest) (parsed_block bytes))
  turn_alike settings ask other = (refl, other_last s last)

-- ---- two states

module _ (settings : Settings) where
  alike : (s t : State) (ask : Ask) → EqualButLast s t → ask ≢ Last → IsAlike (turn settings s ask) (turn settings t ask)
  alike s t ask e other = subst (λ (u : State). IsAlike (turn settings s ask) (turn settings u ask)) (is_with_last s t e) (turn_alike s t.last settings ask other)

  pub reply_alike : (s t : State) (ask : Ask) → EqualButLast s t → ask ≢ Last → (turn settings s ask).reply ≡ (turn settings t ask).reply
  reply_alike s t ask e other = (alike s t ask e other).0

  pub after_alike : (s t : State) (ask : Ask) → EqualButLast s t → EqualButLast (turn settings s ask).after (turn settings t ask).after
  after_alike s t Last e = e
  after_alike s t ask e = (alike s t ask e (λ is. cc)).1

  -- whether a frame counts
  low_height : (height : ℕ) → height < greatest_height → nat_le greatest_height height ≡ false
  low_height height h = grind (arith, nat_tests)

  low_test : (height : ℕ) → nat_lt height greatest_height ≡ true → height < greatest_height
  low_test height h = grind (arith, nat_tests)

  high_test : (height : ℕ) → nat_lt height greatest_height ≡ false → nat_le greatest_height height ≡ true
  high_test height h = grind (arith, nat_tests)

  pub frame_after : (s t : State) (bytes : List ℕ) → EqualButLast s t → s.height < greatest_height → (turn settings s (Frame bytes)).after ≡ (turn settings t (Frame bytes)).after
  frame_after s t bytes e low =
      subst (λ (u : State). (turn settings s (Frame bytes)).after ≡ (turn settings u (Frame bytes)).after) (is_with_last s t e)
      (ap (λ (u : Turn). u.after) (frame_counts s t.last settings (nat_le greatest_height s.height) (accepted settings s bytes) (low_height s.height low)))

  -- ---- lists

  behind_frame : (s t : State) (bytes : List ℕ) (asks : List Ask) (counts : Bool) → EqualButLast s t → nat_lt s.height greatest_height ≡ counts → (counts || asks_last_late settings s asks) ≡ true
      → (asks_last_late settings (turn settings s (Frame bytes)).after asks ≡ true → answers_in_turn settings (turn settings s (Frame bytes)).after asks ≡ answers_in_turn settings (turn settings t (Frame bytes)).after asks)
      → answers_in_turn settings (turn settings s (Frame bytes)).after asks ≡ answers_in_turn settings (turn settings t (Frame bytes)).after asks
  behind_frame s t bytes asks true e is late rest = ap (λ (u : State). answers_in_turn settings u asks) (frame_after s t bytes e (low_test s.height is))
  behind_frame s t bytes asks false e is late rest =
      let same : (turn settings s (Frame bytes)).after ≡ s = frame_high s None settings (nat_le greatest_height s.height) (accepted settings s bytes) (high_test s.height is) in
      rest (subst (λ (u : State). asks_last_late settings u asks ≡ true) (sym same) late)

  pub answers_alike : (s t : State) (asks : List Ask) → EqualButLast s t → asks_last_late settings s asks ≡ true → answers_in_turn settings s asks ≡ answers_in_turn settings t asks
  answers_alike s t [] e late = refl
  answers_alike s t (Last ∷ asks) e late = cc
  answers_alike s t (Frame bytes ∷ asks) e late =
      let both = alike s t (Frame bytes) e (λ is. cc) in
      one_more settings (turn settings s (Frame bytes)) (turn settings t (Frame bytes)) asks both
      (behind_frame s t bytes asks (nat_lt s.height greatest_height) e refl late
      (answers_alike (turn settings s (Frame bytes)).after (turn settings t (Frame bytes)).after asks both.1))
  answers_alike s t (ask ∷ asks) e late =
      let both = alike s t ask e (λ is. cc) in
      one_more settings (turn settings s ask) (turn settings t ask) asks both
      (answers_alike (turn settings s ask).after (turn settings t ask).after asks both.1 late)

  pub states_alike : (s t : State) (asks : List Ask) → EqualButLast s t → EqualButLast (state_after settings s asks) (state_after settings t asks)
  states_alike s t [] e = e
  states_alike s t (ask ∷ asks) e = states_alike (turn settings s ask).after (turn settings t ask).after asks (after_alike s t ask e)
