-- No value of a session's storage is longer than its rules allow.
use Rattle.std.proofs.Common.{◌≡◌, ◌≤◌, inl, inr, sym, subst, ℕ, Bool, false, not, nat_lt, nat_le, List, [], ◌∷◌, length, Option, Result, Ok, Err, refl, arith, lit≤}
use Rattle.std.specs.Prelude.{IfOk}
use Rattle.std.specs.FinMap.{contains_key, empty}
use Rattle.std.specs.Result.{result_map_both}
use Rattle.std.proofs.lemmas.Bool.{cond_both}
use Rattle.std.proofs.lemmas.Result.{IfOk-at_ok}
use Rattle.rv_ledger.specs.Height.{greatest_height}
use Rattle.sha2.specs.Sha256.{sha256}
use Rattle.block_file.specs.Block.{BlockValue, parsed_block}
use Rattle.block_file.specs.declared.fault.BlockFault.{BlockFault}
use Rattle.elf32.specs.Layout.{Layout}
use Rattle.programs.specs.Programs.{calls_over, file_limit}
use Rattle.session_requests.specs.Requests.{Ask, Program, Forget, Frame, Begin}
use Rattle.rv_ledger.specs.Key.{Storage}
use Rattle.rv_ledger.specs.Rules.{longest_value, rules_number}
use Rattle.rv_ledger.specs.declared.rules.Rules.{Rules}
use Rattle.rv_ledger.specs.declared.rules.Rules.TheVariants.{One, Two, Three}
use Rattle.rv_step.specs.Fold.{store_after}
use Rattle.session_serving.specs.Serving.{AreAnswered, state_after}
use Rattle.session_turns.specs.Failures.{IsAnswer}
use Rattle.session_turns.specs.Turn.{Accepted, Turn, ◌>>=◌, accepted, accepted_block, agree, begun_with, frame_answer, block_gas, is_above_limit, is_dump, new_session, handed_program, turn, unless, turn_with_program}
use Rattle.session_turns.specs.Programs.{frame_programs}
use Rattle.session_turns.specs.declared.refusal.FrameRefusal.{FrameRefusal}
use Rattle.session_turns.specs.declared.refusal.FrameRefusal.TheVariants.{Block, NotADump, OlderRules, OtherDigest, TooLong, TooMuchGas}
use Rattle.session_turns.specs.declared.settings.Settings.{Settings}
use Rattle.session_turns.specs.declared.state.State.{State}
use Rattle.session_laws.specs.Chained.{AreShort}
use Rattle.session_laws.proofs.Values.{entries_from, values_from}
use Rattle.session_laws.proofs.ShortBlocks.{Fits, IsShort, calls_short, file_short, no_values, put_short}

-- ---- the same for the entries

to_entries : (rules : Rules) (store : Storage) → IsShort rules store → AreShort rules store
to_entries rules store h = entries_from (Fits rules) store h

from_entries : (rules : Rules) (store : Storage) → AreShort rules store → IsShort rules store
from_entries rules store h = values_from (Fits rules) store h

pub file_entries : (bytes : List ℕ) (block : BlockValue) → parsed_block bytes ≡ Ok block → AreShort block.rules block.store
file_entries bytes block e = to_entries block.rules block.store (IfOk-at_ok (λ b. IsShort b.rules b.store) e (file_short bytes))

pub block_entries : (block : BlockValue) (images : List Layout) (store : Storage) → AreShort block.rules store → AreShort block.rules (store_after (calls_over block images) store)
block_entries block images store h =
    to_entries block.rules (store_after (calls_over block images) store) (calls_short block.rules images block.calls store (from_entries block.rules store h))

-- ---- rules that are not older allow as much

allowed_more : (one other : Rules) → nat_lt (rules_number other) (rules_number one) ≡ false → longest_value one ≤ longest_value other
allowed_more One One h = lit≤ tt
allowed_more One Two h = lit≤ tt
allowed_more One Three h = lit≤ tt
allowed_more Two One h = cc
allowed_more Two Two h = lit≤ tt
allowed_more Two Three h = lit≤ tt
allowed_more Three One h = cc
allowed_more Three Two h = lit≤ tt
allowed_more Three Three h = lit≤ tt

abbrev IsShortState : State → Type 0
IsShortState s = AreShort s.rules s.store

-- ---- frames

-- a block's entries are short by its rules, which allow at least what the session's rules allow
record IsShortFor (s : State) (block : BlockValue) : Type 0 where
  own : AreShort block.rules block.store
  more : longest_value s.rules ≤ longest_value block.rules

abbrev IsShortFrame : State → Accepted → Type 0
IsShortFrame s frame = IsShortFor s frame.block

unless_short : {A : Type 0} (P : A → Type 0) (b : Bool) (refusal : FrameRefusal) (rest : Result A FrameRefusal) → (b ≡ false → IfOk rest P) → IfOk (unless b refusal rest) P
unless_short P b refusal rest h = cond_both b (Err refusal) rest (λ r. IfOk r P) (λ _. tt) h

-- what a block becomes keeps its block, and what is read becomes a block
with_images : (s : State) (block : BlockValue) → IsShortFor s block → (images : Result (List Layout) FrameRefusal)
    → IfOk (result_map_both (λ images. record { block = block; images = images }) (λ refusal. refusal) images) (IsShortFrame s)
with_images s block h (Ok images) = h
with_images s block h (Err refusal) = tt

block_taken : (settings : Settings) (s : State) (block : BlockValue) → AreShort block.rules block.store → IfOk (accepted_block settings s block) (IsShortFrame s)
block_taken settings s block own =
    unless_short (IsShortFrame s) (is_above_limit settings.frame_gas (block_gas block)) TooMuchGas _ (λ _.
    unless_short (IsShortFrame s) (nat_lt (rules_number block.rules) (rules_number s.rules)) OlderRules _ (λ newer.
    with_images s block (record { own = own; more = allowed_more s.rules block.rules newer }) (frame_programs s.programs block.programs)))

text_taken : (bytes : List ℕ) (A : Type 0) (P : A → Type 0) (next : BlockValue → Result A FrameRefusal) → ((block : BlockValue) → AreShort block.rules block.store → IfOk (next block) P)
    → IfOk (result_map_both (λ block. block) Block (parsed_block bytes) >>= next) P
text_taken bytes A P next h = by (parsed_block bytes) refl
  where
    by : (text : Result BlockValue BlockFault) → parsed_block bytes ≡ text → IfOk (result_map_both (λ block. block) Block text >>= next) P
    by (Ok block) e = h block (file_entries bytes block e)
    by (Err fault) e = tt

frame_taken : (settings : Settings) (s : State) (bytes : List ℕ) → IfOk (accepted settings s bytes) (IsShortFrame s)
frame_taken settings s bytes =
    unless_short (IsShortFrame s) (nat_lt settings.frame_limit (length bytes)) TooLong _ (λ _.
    text_taken bytes Accepted (IsShortFrame s) (accepted_block settings s) (block_taken settings s))

-- what a frame leaves
frame_short : (settings : Settings) (s : State) (wanted : Result Accepted FrameRefusal) → IsShortState s → IfOk wanted (IsShortFrame s) → IsShortState (frame_answer settings s wanted).after
frame_short settings s (Err refusal) h taken = h
frame_short settings s (Ok frame) h taken =
    let rules = frame.block.rules in
    let own = from_entries rules frame.block.store taken.own in
    let before : AreShort rules s.store = λ k d b. omega (arith, h k d b, taken.more) in
    to_entries rules _ (calls_short rules frame.images frame.block.calls _ (put_short rules s.store frame.block.store own (from_entries rules s.store before)))

-- ---- other requests

abbrev IsShortRead : BlockValue → Type 0
IsShortRead block = AreShort block.rules block.store

begun_short : (s : State) (height : ℕ) (digest : Option (List ℕ)) (text : Result BlockValue FrameRefusal) → IsShortState s → IfOk text IsShortRead → IsShortState (begun_with s height digest text).after
begun_short s height digest (Ok block) h taken = taken
begun_short s height digest (Err refusal) h taken = h

loaded_short : (s : State) (name : List ℕ) (image : Result Layout FrameRefusal) → IsShortState s → IsShortState (turn_with_program s name image).after
loaded_short s name (Ok image) h = h
loaded_short s name (Err refusal) h = h

module _ (settings : Settings) where
  pub turn_short : (s : State) (ask : Ask) → AreShort s.rules s.store → AreShort (turn settings s ask).after.rules (turn settings s ask).after.store
  turn_short s (Program file) h =
      cond_both (nat_lt file_limit (length file)) _ _ (λ (t : Turn). IsShortState t.after) (λ _. h) (λ _.
      cond_both (contains_key s.programs (sha256 file)) _ _ (λ (t : Turn). IsShortState t.after) (λ _. h) (λ _. loaded_short s (sha256 file) (handed_program file) h))
  turn_short s (Forget name) h = cond_both (contains_key s.programs name) _ _ (λ (t : Turn). IsShortState t.after) (λ _. h) (λ _. h)
  turn_short s (Frame bytes) h =
      cond_both (nat_le greatest_height s.height) _ _ (λ (t : Turn). IsShortState t.after) (λ _. h) (λ _. frame_short settings s (accepted settings s bytes) h (frame_taken settings s bytes))
  turn_short s (Begin height digest bytes) h = begun_short s height digest _ h (text_taken bytes BlockValue IsShortRead _ (λ block own.
      unless_short IsShortRead (not (is_dump block)) NotADump _ (λ _. unless_short IsShortRead (not (agree digest s.digest)) OtherDigest _ (λ _. own))))
  turn_short s ask h = h

  pub new_short : AreShort (new_session settings).rules (new_session settings).store
  new_short = to_entries One empty (no_values One)

  pub asks_short : (s : State) (asks : List Ask) → AreShort s.rules s.store → AreShort (state_after settings s asks).rules (state_after settings s asks).store
  asks_short s [] h = h
  asks_short s (ask ∷ asks) h = asks_short (turn settings s ask).after asks (turn_short s ask h)

  -- also if memory ran out at some of the requests
  answer_short : (s after : State) (ask : Ask) (text : List ℕ) → IsAnswer settings s ask text after → IsShortState s → IsShortState after
  answer_short s after ask text (inl (is, leads)) h = subst IsShortState (sym leads) (turn_short s ask h)
  answer_short s after ask text (inr (failure, may, is, same)) h = subst IsShortState (sym same) h

  pub answered_short : (s after : State) (asks : List Ask) (text : List ℕ) → AreAnswered (IsAnswer settings) s asks text after → AreShort s.rules s.store → AreShort after.rules after.store
  unfolding AreAnswered
  answered_short s after [] text is h = subst IsShortState (sym is.1) h
  answered_short s after (ask ∷ asks) text (answer, next, rest, is, told, more) h = answered_short next after asks rest more (answer_short s next ask answer told h)
