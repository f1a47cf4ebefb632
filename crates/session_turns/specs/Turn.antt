-- The turn of each request: what it is answered, and what it leaves.
use Rattle.std.specs.Prelude.{ℕ, List, [], ◌∷◌, ◌++◌, ◌+◌, ◌==◌, map, length, nat_le, nat_lt, fold, Bool, true, false, not, ◌&&◌, Option, Some, None, Result, Ok, Err, replicate, if◌then◌else◌}
use Rattle.std.specs.FinMap as fin
use Rattle.std.specs.Option.{option_map}
use Rattle.std.specs.Result.{result_map_both}
use Rattle.std.specs.List.{sum_by}
use Rattle.rv_ledger.specs.Height.{greatest_height}
use Rattle.rv_ledger.specs.Rules.{rules_number}
use Rattle.sha2.specs.Sha256.{sha256}
use Rattle.block_file.specs.Block.{BlockValue, parsed_block}
use Rattle.elf32.specs.Layout.{Layout}
use Rattle.elf32.specs.Image.{image_of}
use Rattle.session_requests.specs.Requests.{Ask, Program, Forget, Programs, Frame, Try, Last, Get, ListEntries, Dump, Begin, State as AskState, Quit}
use Rattle.rv_ledger.specs.Key.{Storage}
use Rattle.rv_ledger.specs.declared.rules.Rules.TheVariants as rules
use Rattle.rv_step.specs.Fold.{receipts_of, store_after}
use Rattle.receipts.specs.Brief.{receipts_text}
use Rattle.session_turns.specs.Replies.{TurnReply, Done, Refused, turn_reply_text, done_answer, kept_reply, refused_answer}
use Rattle.session_turns.specs.Telling.{value_line, dump_text, listed, names_text, state_text}
use Rattle.programs.specs.Programs.{calls_over, file_limit}
use Rattle.session_turns.specs.Programs.{frame_programs}
use Rattle.session_turns.specs.declared.kept.KeptAnswer.{KeptAnswer}
use Rattle.session_turns.specs.declared.refusal.FrameRefusal.{FrameRefusal}
use Rattle.session_turns.specs.declared.refusal.FrameRefusal.TheVariants.{Block, Elf, FileTooLong, OlderRules, NoProgram, TooLong, TooMuchGas, NotADump, NoFrame, OtherDigest, TooHigh}
use Rattle.session_turns.specs.declared.settings.Settings.{Settings}
use Rattle.session_turns.specs.declared.state.State.{State}

-- what a request is answered, and what it leaves
pub record Turn : Type 0 where
  pub reply : TurnReply
  pub after : State

-- a request that changes nothing
abbrev pub told : State → TurnReply → Turn
told s reply = record { reply = reply; after = s }

-- ---- the session before its first request

abbrev pub first_digest : Bool → Option (List ℕ)
first_digest false = None
first_digest true = Some (replicate 32 0)

abbrev pub new_session : Settings → State
new_session settings = record {
  store = fin.empty;
  rules = rules.One;
  height = 0;
  digest = first_digest settings.keeps_digest;
  programs = fin.empty;
  last = None;
}

-- ---- frames

-- the sum of the gas limits of a block's calls
abbrev pub block_gas : BlockValue → ℕ
block_gas block = sum_by (λ call. call.gas) block.calls

abbrev pub is_above_limit : Option ℕ → ℕ → Bool
is_above_limit None gas = false
is_above_limit (Some most) gas = nat_lt most gas

-- the second step if the first gave a value, otherwise the refusal of the first
infixl 10 ◌>>=◌
abbrev pub ◌>>=◌ : {A B : Type 0} → Result A FrameRefusal → (A → Result B FrameRefusal) → Result B FrameRefusal
(Ok x) >>= f = f x
(Err refusal) >>= f = Err refusal

abbrev pub unless : Bool → FrameRefusal → {A : Type 0} → Result A FrameRefusal → Result A FrameRefusal
unless holds refusal rest = if holds then Err refusal else rest

-- a frame's block over the programs that it names, or its first fault: its text, the gas of its calls, its rules, its programs
pub record Accepted : Type 0 where
  pub block : BlockValue
  pub images : List Layout

abbrev pub accepted_block : Settings → State → BlockValue → Result Accepted FrameRefusal
accepted_block settings s block =
    unless (is_above_limit settings.frame_gas (block_gas block)) TooMuchGas (
    unless (nat_lt (rules_number block.rules) (rules_number s.rules)) OlderRules (
    result_map_both (λ images. record { block = block; images = images }) (λ refusal. refusal) (frame_programs s.programs block.programs)))

abbrev pub accepted : Settings → State → List ℕ → Result Accepted FrameRefusal
accepted settings s bytes =
    unless (nat_lt settings.frame_limit (length bytes)) TooLong (
    result_map_both (λ block. block) Block (parsed_block bytes) >>= accepted_block settings s)

-- the storage that its calls run over: its own entries are put over the session's
abbrev pub put_over : Storage → Storage → Storage
put_over store entries = fold (λ s e. fin.insert s e.0 e.1) store (fin.entries entries)

abbrev pub storage_for : State → Accepted → Storage
storage_for s frame = put_over s.store frame.block.store

-- the receipts of a frame, and the storage that it leaves
abbrev pub receipts_answer : Settings → State → Accepted → KeptAnswer
receipts_answer settings s frame =
    done_answer (receipts_text settings.is_brief (receipts_of (calls_over frame.block frame.images) (storage_for s frame)))

abbrev pub after_run : State → Accepted → State
after_run s frame = record s { store = store_after (calls_over frame.block frame.images) (storage_for s frame); rules = frame.block.rules }

-- a frame that counts: the height goes up, its answer is kept, and the digest is that of the one before and of the answer
abbrev pub next_digest : Option (List ℕ) → TurnReply → Option (List ℕ)
next_digest digest reply = option_map (λ d. sha256 (d ++ turn_reply_text reply)) digest

abbrev pub counted_turn : State → KeptAnswer → Turn
counted_turn s answer = record {
  reply = kept_reply answer;
  after = record s { height = s.height + 1; digest = next_digest s.digest (kept_reply answer); last = Some answer };
}

abbrev pub frame_answer : Settings → State → Result Accepted FrameRefusal → Turn
frame_answer settings s (Err refusal) = counted_turn s (refused_answer refusal)
frame_answer settings s (Ok frame) = counted_turn (after_run s frame) (receipts_answer settings s frame)

-- a frame that is refused before its text is read
abbrev pub refused_frame : State → FrameRefusal → Turn
refused_frame s refusal = if nat_le greatest_height s.height then told s (Refused TooHigh) else counted_turn s (refused_answer refusal)

-- at the greatest height no frame is run, and none counts
abbrev pub frame_turn : Settings → State → List ℕ → Turn
frame_turn settings s bytes =
    if nat_le greatest_height s.height then told s (Refused TooHigh) else frame_answer settings s (accepted settings s bytes)

-- `try`: the answer to the same frame, and nothing is kept
abbrev pub try_turn : Settings → State → List ℕ → Turn
try_turn settings s bytes = told s (frame_turn settings s bytes).reply

-- ---- other requests

-- a program's file has at most 131,072 bytes; its name is its SHA-256
abbrev pub handed_program : List ℕ → Result Layout FrameRefusal
handed_program file = result_map_both (λ image. image) Elf (image_of file)

abbrev pub turn_with_program : State → List ℕ → Result Layout FrameRefusal → Turn
turn_with_program s name (Err refusal) = told s (Refused refusal)
turn_with_program s name (Ok image) = record { reply = Done (names_text (name ∷ [])); after = record s { programs = fin.insert s.programs name image } }

-- one that is here already is not loaded again
abbrev pub named_turn : State → List ℕ → List ℕ → Turn
named_turn s name file =
    if fin.contains_key s.programs name then told s (Done (names_text (name ∷ []))) else turn_with_program s name (handed_program file)

abbrev pub program_turn : State → List ℕ → Turn
program_turn s file = if nat_lt file_limit (length file) then told s (Refused FileTooLong) else named_turn s (sha256 file) file

abbrev pub forget_turn : State → List ℕ → Turn
forget_turn s name =
    if fin.contains_key s.programs name then record { reply = Done []; after = record s { programs = fin.remove s.programs name } }
    else told s (Refused NoProgram)

abbrev pub last_reply : Option KeptAnswer → TurnReply
last_reply None = Refused NoFrame
last_reply (Some kept) = kept_reply kept

-- `begin`: the text of a storage, without programs and calls, takes the place of the session's
abbrev pub is_dump : BlockValue → Bool
is_dump block = length block.programs == 0 && length block.calls == 0

-- a digest comes exactly if one is kept
abbrev pub agree : Option (List ℕ) → Option (List ℕ) → Bool
agree None None = true
agree (Some one) (Some other) = true
agree one other = false

abbrev pub begun_with : State → ℕ → Option (List ℕ) → Result BlockValue FrameRefusal → Turn
begun_with s height digest (Err refusal) = told s (Refused refusal)
begun_with s height digest (Ok block) = record {
  reply = Done [];
  after = record s { store = block.store; rules = block.rules; height = height; digest = digest; last = None };
}

abbrev pub begin_turn : State → ℕ → Option (List ℕ) → List ℕ → Turn
begin_turn s height digest bytes = begun_with s height digest (
    result_map_both (λ block. block) Block (parsed_block bytes) >>= (λ block.
    unless (not (is_dump block)) NotADump (
    unless (not (agree digest s.digest)) OtherDigest (Ok block))))

-- the turn of a request
abbrev pub turn : Settings → State → Ask → Turn
turn settings s (Program file) = program_turn s file
turn settings s (Forget name) = forget_turn s name
turn settings s Programs = told s (Done (names_text (map (λ e. e.0) (fin.entries s.programs))))
turn settings s (Frame bytes) = frame_turn settings s bytes
turn settings s (Try bytes) = try_turn settings s bytes
turn settings s Last = told s (last_reply s.last)
turn settings s (Get key) = told s (Done (value_line (fin.get s.store key)))
turn settings s (ListEntries from count) = told s (Done (listed s.store from count))
turn settings s Dump = told s (Done (dump_text s.rules s.store))
turn settings s (Begin height digest bytes) = begin_turn s height digest bytes
turn settings s AskState = told s (Done (state_text settings s))
turn settings s Quit = told s (Done [])
