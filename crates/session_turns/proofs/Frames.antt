-- A frame, stage by stage.
use Rattle.std.proofs.Common.{◌≡◌, ◌⊎◌, ◌<◌, ◌≤◌, ℕ, List, Bool, true, false, length, nat_lt, nat_le, Result, Ok, Err, inl, inr, rules, refl, sym, ap, subst, ◌∙◌, arith, [], ◌∷◌, if◌then◌else◌}
use Rattle.std.specs.Prelude.{IfErr, IsOk, IsSome, None, Some, Vec}
use Rattle.std.specs.declared.alloc.Global.{Global}
use Rattle.std.specs.Result.{result_map_both}
use Rattle.std.proofs.lemmas.Bool.Decides.{nat_tests}
use Rattle.block_file.specs.Block.{BlockValue, parsed_block}
use Rattle.block_file.specs.declared.fault.BlockFault.{BlockFault}
use Rattle.elf32.specs.Layout.{Layout}
use Rattle.rv_ledger.specs.Height.{greatest_height}
use Rattle.rv_ledger.specs.Rules.{rules_number}
use Rattle.session_requests.specs.Requests.{Frame}
use Rattle.rv_ledger.specs.declared.rules.Rules.{Rules}
use Rattle.session_turns.specs.Failures.{MayTurnFail, MayFailFrame}
use Rattle.session_turns.specs.Pending.{IsPendingDue, IsPending, counting, long_frame, stopped_frame}
use Rattle.session_turns.specs.Programs.{IsFirstNamed, ProgramsByName, before, program_named, frame_programs}
use Rattle.session_turns.specs.Replies.{Done, done_answer, refused_answer}
use Rattle.session_turns.specs.Stages.{StageGives, FailsOnlyWhere, IsAccepted, IsRequestAnswered, IsRan, StopsAt, accepted_value, left_of, stopped_answer}
use Rattle.session_turns.specs.Turn.{Accepted, Turn, ◌>>=◌, accepted, accepted_block, counted_turn, frame_answer, frame_turn, block_gas, is_above_limit, try_turn, unless}
use Rattle.session_turns.specs.declared.answer.Answer.TheVariants as answer
use Rattle.session_turns.specs.declared.pending.Pending.TheVariants as pending
use Rattle.session_turns.specs.declared.pending.PendingRun.{PendingRun}
use Rattle.session_turns.specs.declared.refusal.Failure.{Failure}
use Rattle.session_turns.specs.declared.refusal.Failure.TheVariants as want
use Rattle.session_turns.specs.declared.refusal.FrameRefusal.{FrameRefusal}
use Rattle.session_turns.specs.declared.refusal.FrameRefusal.TheVariants.{Block, NoProgram, OlderRules, TooHigh, TooLong, TooMuchGas}
use Rattle.session_turns.specs.declared.run.Left.{Left}
use Rattle.session_turns.specs.declared.settings.Settings.{Settings}
use Rattle.session_turns.specs.declared.stages.AcceptedFrame.{AcceptedFrame}
use Rattle.session_turns.specs.declared.stages.Stop.{Stop}
use Rattle.session_turns.specs.declared.stages.Stop.TheVariants as stop
use Rattle.session_turns.specs.declared.state.State.{State}

-- ---- stops

-- if memory runs out only under one condition, it runs out only under a weaker one
pub fails_weaker : {X : Type 0} (P Q : Failure → Type 0) (given : Result X Stop) → ((f : Failure) → P f → Q f) → FailsOnlyWhere P given → FailsOnlyWhere Q given
fails_weaker P Q (Ok x) h p = tt
fails_weaker P Q (Err (stop.Failed f)) h p = h f p
fails_weaker P Q (Err (stop.Refused r)) h p = tt

-- memory may run out whatever is wanted
pub answers_failed : {A X : Type 0} (is : A → X → Type 0) (wanted : Result A FrameRefusal) (f : Failure) → StageGives is wanted (Err (stop.Failed f))
answers_failed is (Ok w) f = tt
answers_failed is (Err w) f = tt

-- ---- the text

text_is : (b : Bool) (text : Result BlockValue BlockFault) (block : BlockValue) (f : BlockValue → Result Accepted FrameRefusal) → b ≡ false → text ≡ Ok block → unless b TooLong (result_map_both (λ x. x) Block text >>= f) ≡ f block
text_is false text block f short is = ap (λ (t : Result BlockValue BlockFault). result_map_both (λ x. x) Block t >>= f) is
text_is true text block f short is = cc

text_stops : (b : Bool) (text : Result BlockValue BlockFault) (f : BlockValue → Result Accepted FrameRefusal) (why : Stop) → b ≡ false → StopsAt text why → StageGives IsAccepted (unless b TooLong (result_map_both (λ x. x) Block text >>= f)) (Err why)
text_stops true text f why short is = cc
text_stops false text f (stop.Failed failure) short is = answers_failed IsAccepted (result_map_both (λ x. x) Block text >>= f) failure
text_stops false (Err fault) f (stop.Refused refusal) short is = is
text_stops false (Ok block) f (stop.Refused refusal) short is = absurd is

accepted_is : (settings : Settings) (s : State) (bytes : List ℕ) (block : BlockValue) → length bytes ≤ settings.frame_limit → parsed_block bytes ≡ Ok block → accepted settings s bytes ≡ accepted_block settings s block
accepted_is settings s bytes block short is =
    let test : nat_lt settings.frame_limit (length bytes) ≡ false = grind (arith, nat_tests) in
    text_is (nat_lt settings.frame_limit (length bytes)) (parsed_block bytes) block (accepted_block settings s) test is

-- the stages after a text that was read
pub says_block : (settings : Settings) (s : State) (bytes : List ℕ) (block : BlockValue) (given : Result AcceptedFrame Stop) → length bytes ≤ settings.frame_limit → parsed_block bytes ≡ Ok block
    → StageGives IsAccepted (accepted_block settings s block) given → StageGives IsAccepted (accepted settings s bytes) given
says_block settings s bytes block given short is says = subst (λ (r : Result Accepted FrameRefusal). StageGives IsAccepted r given) (sym (accepted_is settings s bytes block short is)) says

pub fails_block : (settings : Settings) (s : State) (bytes : List ℕ) (block : BlockValue) (given : Result AcceptedFrame Stop) → length bytes ≤ settings.frame_limit → parsed_block bytes ≡ Ok block
    → FailsOnlyWhere (λ failure. (failure ≡ want.Program) × IfErr (accepted_block settings s block) (λ refusal. refusal ≡ NoProgram)) given → FailsOnlyWhere (MayFailFrame settings s bytes) given
fails_block settings s bytes block given short is fails = fails_weaker _ (MayFailFrame settings s bytes) given
    (λ f p. subst (MayFailFrame settings s bytes) (sym p.0) (subst (λ (r : Result Accepted FrameRefusal). IfErr r (λ refusal. refusal ≡ NoProgram)) (sym (accepted_is settings s bytes block short is)) p.1)) fails

-- if the text was not read
pub says_stopped : (settings : Settings) (s : State) (bytes : List ℕ) (why : Stop) → length bytes ≤ settings.frame_limit → StopsAt (parsed_block bytes) why → StageGives IsAccepted (accepted settings s bytes) (Err why)
says_stopped settings s bytes why short is =
    let test : nat_lt settings.frame_limit (length bytes) ≡ false = grind (arith, nat_tests) in
    text_stops (nat_lt settings.frame_limit (length bytes)) (parsed_block bytes) (accepted_block settings s) why test is

pub fails_stopped : (settings : Settings) (s : State) (bytes : List ℕ) (why : Stop) → length bytes ≤ settings.frame_limit → StopsAt (parsed_block bytes) why → FailsOnlyWhere {X = AcceptedFrame} (MayFailFrame settings s bytes) (Err why)
fails_stopped settings s bytes (stop.Refused refusal) short is = tt
fails_stopped settings s bytes (stop.Failed failure) short is =
    let test : nat_lt settings.frame_limit (length bytes) ≡ false = grind (arith, nat_tests) in
    subst (MayFailFrame settings s bytes) (sym is) test

-- ---- the programs

-- if a missing program is the only fault of each part, it is the only fault of all
before_refuses : (first : Result Layout FrameRefusal) (rest : Result (List Layout) FrameRefusal) → IfErr first (λ r. r ≡ NoProgram) → IfErr rest (λ r. r ≡ NoProgram) → IfErr (before first rest) (λ r. r ≡ NoProgram)
before_refuses (Err r) rest p q = p
before_refuses (Ok image) (Err r) p q = q
before_refuses (Ok image) (Ok images) p q = tt

named_refuses : (programs : ProgramsByName) (path : List ℕ) → IfErr (program_named programs path) (λ r. r ≡ NoProgram)
named_refuses programs path = search rules

pub programs_refuse : (programs : ProgramsByName) (paths : List (List ℕ)) → IfErr (frame_programs programs paths) (λ r. r ≡ NoProgram)
programs_refuse programs [] = tt
programs_refuse programs (path ∷ paths) = before_refuses (program_named programs path) (frame_programs programs paths) (named_refuses programs path) (programs_refuse programs paths)

map_refuses : (block : BlockValue) (images : Result (List Layout) FrameRefusal) → IfErr images (λ r. r ≡ NoProgram) → IfErr {T = Accepted} (result_map_both (λ images. record { block = block; images = images }) (λ refusal. refusal) images) (λ r. r ≡ NoProgram)
map_refuses block (Ok images) h = tt
map_refuses block (Err r) h = h

tests_refuse : (a b : Bool) (rest : Result Accepted FrameRefusal) → a ≡ false → b ≡ false → IfErr rest (λ r. r ≡ NoProgram) → IfErr (unless a TooMuchGas (unless b OlderRules rest)) (λ r. r ≡ NoProgram)
tests_refuse false false rest p q h = h
tests_refuse true b rest p q h = cc
tests_refuse false true rest p q h = cc

-- the stage of the programs stopped: memory ran out, or a program is not here
pub fails_programs : (settings : Settings) (s : State) (block : BlockValue) (why : Stop) → is_above_limit settings.frame_gas (block_gas block) ≡ false → nat_lt (rules_number block.rules) (rules_number s.rules) ≡ false
    → ((why ≡ stop.Failed want.Program) × IsFirstNamed s.programs block.programs) ⊎ ((frame_programs s.programs block.programs ≡ Err NoProgram) × (why ≡ stop.Refused NoProgram))
    → FailsOnlyWhere {X = AcceptedFrame} (λ failure. (failure ≡ want.Program) × IfErr (accepted_block settings s block) (λ refusal. refusal ≡ NoProgram)) (Err why)
fails_programs settings s block why gas rules (inl p) = subst
    (λ (w : Stop). FailsOnlyWhere {X = AcceptedFrame} (λ failure. (failure ≡ want.Program) × IfErr (accepted_block settings s block) (λ refusal. refusal ≡ NoProgram)) (Err w)) (sym p.0)
    (refl, tests_refuse (is_above_limit settings.frame_gas (block_gas block)) (nat_lt (rules_number block.rules) (rules_number s.rules)) _ gas rules (map_refuses block (frame_programs s.programs block.programs) (programs_refuse s.programs block.programs)))
fails_programs settings s block why gas rules (inr p) = subst
    (λ (w : Stop). FailsOnlyWhere {X = AcceptedFrame} (λ failure. (failure ≡ want.Program) × IfErr (accepted_block settings s block) (λ refusal. refusal ≡ NoProgram)) (Err w)) (sym p.1) tt

-- ---- the run

-- what a frame that ran gives
abbrev pub Ran : Type 0
Ran = Vec ℕ Global × Rules × Left

accepted_ok : (wanted : Result Accepted FrameRefusal) (frame : AcceptedFrame) → StageGives IsAccepted wanted (Ok frame) → IsOk wanted
accepted_ok (Ok w) frame is = refl
accepted_ok (Err r) frame is = absurd is

ran_ok : (settings : Settings) (s : State) (wanted : Result Accepted FrameRefusal) (ran : Ran) → StageGives (IsRan settings s) wanted (Ok ran) → IsOk wanted
ran_ok settings s (Ok w) ran is = refl
ran_ok settings s (Err r) ran is = absurd is

pub ran_answers : (settings : Settings) (s : State) (wanted : Result Accepted FrameRefusal) (frame : AcceptedFrame) (ran : Ran) → StageGives IsAccepted wanted (Ok frame) → IsRan settings s (accepted_value frame) ran → StageGives (IsRan settings s) wanted (Ok ran)
ran_answers settings s (Err r) frame ran is done = absurd is
ran_answers settings s (Ok w) frame ran is done =
    let same : accepted_value frame ≡ w = λ j. record { block = is.0 j; images = is.1 j } in
    subst (λ (a : Accepted). IsRan settings s a ran) same done

-- a run fails only if the frame was accepted
pub run_fails : (settings : Settings) (s : State) (bytes : List ℕ) (frame : AcceptedFrame) (failure : Failure) → StageGives IsAccepted (accepted settings s bytes) (Ok frame) → (failure ≡ want.Run) ⊎ (failure ≡ want.Answer) → MayFailFrame settings s bytes failure
run_fails settings s bytes frame failure is (inl e) = subst (MayFailFrame settings s bytes) (sym e) (accepted_ok (accepted settings s bytes) frame is)
run_fails settings s bytes frame failure is (inr e) = subst (MayFailFrame settings s bytes) (sym e) (accepted_ok (accepted settings s bytes) frame is)

-- ---- the turn

turn_is : (settings : Settings) (s : State) (bytes : List ℕ) → s.height < greatest_height → frame_answer settings s (accepted settings s bytes) ≡ frame_turn settings s bytes
turn_is settings s bytes low =
    let test : nat_le greatest_height s.height ≡ false = grind (arith, nat_tests) in
    by_test (nat_le greatest_height s.height) _ _ test
  where
    by_test : (b : Bool) (x y : Turn) → b ≡ false → y ≡ (if b then x else y)
    by_test false x y e = refl
    by_test true x y e = cc

answer_kept : (settings : Settings) (s : State) (wanted : Result Accepted FrameRefusal) (ran : Ran) → StageGives (IsRan settings s) wanted (Ok ran) → counted_turn (record s { store = left_of s.store ran.2; rules = ran.1 }) (done_answer ran.0.items) ≡ frame_answer settings s wanted
answer_kept settings s (Ok w) ran is = λ j. counted_turn (record s { store = is.2 j; rules = is.1 j }) (done_answer (is.0 j))
answer_kept settings s (Err r) ran is = absurd is

-- a frame that ran counts
pub frame_kept : (settings : Settings) (s : State) (bytes : List ℕ) (ran : Ran) → s.height < greatest_height → StageGives (IsRan settings s) (accepted settings s bytes) (Ok ran)
    → IsPending settings s (Frame bytes) (pending.Frame (counting s (Some (record { left = ran.2; rules = ran.1 })) (done_answer ran.0.items)))
frame_kept settings s bytes ran low is = record {
  turn = answer_kept settings s (accepted settings s bytes) ran is ∙ turn_is settings s bytes low;
  room = λ failure wants. (low, subst (MayFailFrame settings s bytes) (sym wants.0) (ran_ok settings s (accepted settings s bytes) ran is));
  new = tt;
  asked = (bytes, refl);
}

none_ran : (P : Type 0) → IsSome {T = PendingRun} None → P
none_ran P some = cc

stop_refused : (settings : Settings) (s : State) (wanted : Result Accepted FrameRefusal) (refusal : FrameRefusal) → StageGives (IsRan settings s) wanted (Err (stop.Refused refusal)) → counted_turn s (refused_answer refusal) ≡ frame_answer settings s wanted
stop_refused settings s (Ok w) refusal is = absurd is
stop_refused settings s (Err r) refusal is = ap (λ (x : FrameRefusal). counted_turn s (refused_answer x)) is

-- a frame that stopped before its run is refused, or fails
pub frame_stopped : (settings : Settings) (s : State) (bytes : List ℕ) (why : Stop) → s.height < greatest_height → StageGives (IsRan settings s) (accepted settings s bytes) (Err why)
    → FailsOnlyWhere {X = Ran} (MayFailFrame settings s bytes) (Err why) → IsPending settings s (Frame bytes) (stopped_frame s why)
frame_stopped settings s bytes (stop.Refused refusal) low is fails = record {
  turn = stop_refused settings s (accepted settings s bytes) refusal is ∙ turn_is settings s bytes low;
  room = λ failure wants. none_ran (MayTurnFail settings s (Frame bytes) failure) wants.1;
  new = tt;
  asked = (bytes, refl);
}
frame_stopped settings s bytes (stop.Failed failure) low is fails = ((low, fails), refl)

-- the same for a frame that is only tried
pub try_done : (settings : Settings) (s : State) (bytes : List ℕ) (ran : Ran) → s.height < greatest_height → StageGives (IsRan settings s) (accepted settings s bytes) (Ok ran) → Done ran.0.items ≡ (frame_turn settings s bytes).reply
try_done settings s bytes ran low is = ap (λ (t : Turn). t.reply) (answer_kept settings s (accepted settings s bytes) ran is ∙ turn_is settings s bytes low)

pub try_stopped : (settings : Settings) (s : State) (bytes : List ℕ) (why : Stop) → s.height < greatest_height → StageGives (IsRan settings s) (accepted settings s bytes) (Err why)
    → FailsOnlyWhere {X = Ran} (MayFailFrame settings s bytes) (Err why)
    → IsRequestAnswered (λ failure. (s.height < greatest_height) × MayFailFrame settings s bytes failure) s (try_turn settings s bytes) (stopped_answer why) s
try_stopped settings s bytes (stop.Refused refusal) low is fails = (ap (λ (t : Turn). t.reply) (stop_refused settings s (accepted settings s bytes) refusal is ∙ turn_is settings s bytes low), refl)
try_stopped settings s bytes (stop.Failed failure) low is fails = ((low, fails), refl)

-- a frame that stopped counts only below the greatest height
pub due_stopped : (s : State) (bytes : List ℕ) (why : Stop) → s.height < greatest_height → IsPendingDue s (Frame bytes) (stopped_frame s why)
due_stopped s bytes (stop.Refused refusal) low = low
due_stopped s bytes (stop.Failed failure) low = tt

-- a frame that is too long counts only below it, too
long_due : (s : State) (bytes : List ℕ) (high : Bool) → nat_le greatest_height s.height ≡ high → IsPendingDue s (Frame bytes) (if high then pending.Nothing (answer.Refused TooHigh) else pending.Frame (counting s None (refused_answer TooLong)))
long_due s bytes true is = tt
long_due s bytes false is = grind (arith, nat_tests)

pub due_long : (s : State) (bytes : List ℕ) → IsPendingDue s (Frame bytes) (long_frame s)
due_long s bytes = long_due s bytes (nat_le greatest_height s.height) refl
