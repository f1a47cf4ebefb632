-- What is pending of a request, and what a session over a file answers it.
use Rattle.std.proofs.Common.{◌≡◌, ◌≢◌, ◌<◌, ◌⊎◌, ℕ, List, [], Bool, true, false, IsTrue, Option, Some, None, inl, inr, refl, sym, ap, subst, ◌∙◌}
use Rattle.std.specs.Option.{option_map}
use Rattle.rv_ledger.specs.Height.{greatest_height}
use Rattle.session_requests.specs.Requests.{Ask, Program, Forget, Frame, Last, Begin}
use Rattle.session_laws.specs.Begun.{EqualButLast}
use Rattle.session_laws.proofs.Alike.{after_alike, frame_after, reply_alike}
use Rattle.session_file.specs.Opening.{answer_parts}
use Rattle.session_file.specs.declared.rows.AnswerRow.{AnswerRow}
use Rattle.session_states.specs.States.{FileState, file_state, last_of, kept_text}
use Rattle.session_states.specs.Faults.{fault_of_store}
use Rattle.sqlite_disk.specs.Disk.{MoreFaults}
use Rattle.sqlite_trees.specs.Tree.{Trees}
use Rattle.sqlite_trees.specs.View.{View, HasCause, IsClean}
use Rattle.sqlite_trees.specs.declared.error.StoreError.{StoreError}
use Rattle.sqlite_trees.specs.declared.error.StoreError.TheVariants as store
use Rattle.session_turns.specs.Pending.{IsPendingDue, IsPendingMade, IsPending, IsPendingChange, after_run_of, turn_of}
use Rattle.session_turns.specs.Replies.{Done, Refused, TurnReply, turn_reply_text}
use Rattle.session_turns.specs.Stages.{reply_in}
use Rattle.session_turns.specs.Turn.{Turn, told, turn}
use Rattle.session_turns.specs.declared.answer.Answer.{Answer}
use Rattle.session_turns.specs.declared.answer.Answer.TheVariants as answer
use Rattle.session_turns.specs.declared.kept.KeptAnswer.{KeptAnswer}
use Rattle.session_turns.specs.declared.pending.Pending.{Pending}
use Rattle.session_turns.specs.declared.pending.Pending.TheVariants as pending
use Rattle.session_turns.specs.declared.pending.PendingFrame.{PendingFrame}
use Rattle.session_turns.specs.declared.pending.PendingRun.{PendingRun}
use Rattle.session_turns.specs.declared.refusal.FrameRefusal.{FrameRefusal}
use Rattle.session_turns.specs.declared.settings.Settings.{Settings}
use Rattle.session_turns.specs.declared.state.State.{State}
use Rattle.session_durability.specs.Durable.{HoldsState, IsBeyondFormat, IsFileAnswer, IsLater, MayChange, MayRefuse, behind_turn, file_turn, last_behind, last_if_begun, moment}
use Rattle.session_durability.specs.Keeping.{AnswersOrShutsFile, IsBeyond, IsKeepCause, MayFailToKeep, Leaves, next_state, over, pending_last, unkept_reply}
use Rattle.session_durability.specs.declared.keeping.KeepFault.{KeepFault}
use Rattle.session_durability.specs.declared.keeping.KeepFault.TheVariants.{Room, Store}
use Rattle.session_durability.proofs.FileTurns.{bare, bare_alike, forget_last, may_fail_bare, program_last, same_bare}

-- a request that changes is no `last`
no_last_program : (ask : Ask) (file : List ℕ) → ask ≡ Program file → ask ≢ Last
no_last_program ask file is e = cc

no_last_forget : (ask : Ask) (name : List ℕ) → ask ≡ Forget name → ask ≢ Last
no_last_forget ask name is e = cc

no_last_frame : (ask : Ask) (bytes : List ℕ) → ask ≡ Frame bytes → ask ≢ Last
no_last_frame ask bytes is e = cc

no_last_begin : (ask : Ask) (height : ℕ) (digest : Option (List ℕ)) (bytes : List ℕ) → ask ≡ Begin height digest bytes → ask ≢ Last
no_last_begin ask height digest bytes is e = cc

-- what is made of a state and of the same without its last answer
run_alike : (s : State) (frame : PendingFrame) (run : Option PendingRun) → frame.run ≡ run → EqualButLast (turn_of s (pending.Frame frame)).after (turn_of (bare s) (pending.Frame frame)).after
run_alike s frame run is = record {
  store = store_same frame.run;
  rules = rules_same frame.run;
  height = refl;
  digest = refl;
  programs = programs_same frame.run;
}
  where
    store_same : (r : Option PendingRun) → (after_run_of s r).store ≡ (after_run_of (bare s) r).store
    store_same None = refl
    store_same (Some x) = refl

    rules_same : (r : Option PendingRun) → (after_run_of s r).rules ≡ (after_run_of (bare s) r).rules
    rules_same None = refl
    rules_same (Some x) = refl

    programs_same : (r : Option PendingRun) → (after_run_of s r).programs ≡ (after_run_of (bare s) r).programs
    programs_same None = refl
    programs_same (Some x) = refl

made_alike : (s : State) (p : Pending) → EqualButLast (turn_of s p).after (turn_of (bare s) p).after
made_alike s (pending.Nothing given) = bare_alike s
made_alike s (pending.Program name image text) = record { store = refl; rules = refl; height = refl; digest = refl; programs = refl }
made_alike s (pending.Forget name) = record { store = refl; rules = refl; height = refl; digest = refl; programs = refl }
made_alike s (pending.Frame frame) = run_alike s frame frame.run refl
made_alike s (pending.Begin begin) = record { store = refl; rules = refl; height = refl; digest = refl; programs = refl }

module _ (settings : Settings) (s : State) (ask : Ask) (p : Pending) (is : IsPendingChange settings s ask p) (other : ask ≢ Last) where
  -- the reply
  pub change_reply : (turn settings (bare s) ask).reply ≡ (turn_of s p).reply
  change_reply = sym (ap (λ (t : Turn). t.reply) is.turn ∙ reply_alike settings s (bare s) ask (bare_alike s) other)

  -- the state
  change_state : bare (turn_of (bare s) p).after ≡ bare (turn settings (bare s) ask).after
  change_state =
      sym (same_bare (turn_of s p).after (turn_of (bare s) p).after (made_alike s p))
      ∙ ap (λ (t : Turn). bare t.after) is.turn
      ∙ same_bare (turn settings s ask).after (turn settings (bare s) ask).after (after_alike settings s (bare s) ask (bare_alike s))

  -- the session over the file
  pub change_next : (last : Option (List ℕ × List ℕ)) → pending_last last p ≡ last_behind last ask (turn settings (bare s) ask) → next_state (over s last) p ≡ behind_turn last ask (turn settings (bare s) ask)
  change_next last same = λ j. record { state = change_state j; last = same j }

file_turn_is : (settings : Settings) (f : FileState) (ask : Ask) → ask ≢ Last → file_turn settings f ask ≡ (turn_reply_text (turn settings f.state ask).reply, behind_turn f.last ask (turn settings f.state ask))
file_turn_is settings f Last other = absurd (other refl)
file_turn_is settings f ask other = refl

-- the last answer after what was pending
program_behind : (settings : Settings) (s : State) (last : Option (List ℕ × List ℕ)) (ask : Ask) (file : List ℕ) → ask ≡ Program file → last ≡ last_behind last ask (turn settings (bare s) ask)
program_behind settings s last ask file is = subst (λ (a : Ask). last ≡ last_behind last a (turn settings (bare s) a)) (sym is) (sym (ap (λ (o : Option KeptAnswer). last_of o last) (program_last (bare s) file)))

forget_behind : (settings : Settings) (s : State) (last : Option (List ℕ × List ℕ)) (ask : Ask) (name : List ℕ) → ask ≡ Forget name → last ≡ last_behind last ask (turn settings (bare s) ask)
forget_behind settings s last ask name is = subst (λ (a : Ask). last ≡ last_behind last a (turn settings (bare s) a)) (sym is) (sym (ap (λ (o : Option KeptAnswer). last_of o last) (forget_last settings (bare s) name)))

frame_behind : (settings : Settings) (s : State) (last : Option (List ℕ × List ℕ)) (ask : Ask) (bytes : List ℕ) (frame : PendingFrame) → ask ≡ Frame bytes → s.height < greatest_height
    → turn_of s (pending.Frame frame) ≡ turn settings s (Frame bytes) → Some (kept_text frame.answer) ≡ last_behind last ask (turn settings (bare s) ask)
frame_behind settings s last ask bytes frame is low counts =
    subst (λ (a : Ask). Some (kept_text frame.answer) ≡ last_behind last a (turn settings (bare s) a)) (sym is)
    (ap (λ (z : State). last_of z.last last) (ap (λ (t : Turn). t.after) counts ∙ frame_after settings s (bare s) bytes (bare_alike s) low))

begun_behind : (settings : Settings) (s : State) (last : Option (List ℕ × List ℕ)) (ask : Ask) (height : ℕ) (digest : Option (List ℕ)) (bytes : List ℕ) → ask ≡ Begin height digest bytes
    → (turn settings (bare s) ask).reply ≡ Done [] → None ≡ last_behind last ask (turn settings (bare s) ask)
begun_behind settings s last ask height digest bytes is done =
    subst (λ (a : Ask). (turn settings (bare s) a).reply ≡ Done [] → None ≡ last_behind last a (turn settings (bare s) a)) (sym is) (λ e. ap (last_if_begun last) (sym e)) done

-- ---- a change

-- what a session over a file answers and leaves is what is pending
pub record IsFileTurn (settings : Settings) (f : FileState) (ask : Ask) (reply : TurnReply) (next : FileState) : Type 0 where
  pub text : (file_turn settings f ask).0 ≡ turn_reply_text reply
  pub leads : (file_turn settings f ask).1 ≡ next
  pub changes : MayChange settings f ask

turned : (settings : Settings) (s : State) (ask : Ask) (p : Pending) (last : Option (List ℕ × List ℕ)) → IsPendingChange settings s ask p → ask ≢ Last
    → pending_last last p ≡ last_behind last ask (turn settings (bare s) ask) → MayChange settings (over s last) ask → IsFileTurn settings (over s last) ask (turn_of s p).reply (next_state (over s last) p)
turned settings s ask p last is other same changes = record {
  text = ap (λ (r : List ℕ × FileState). r.0) (file_turn_is settings (over s last) ask other) ∙ ap turn_reply_text (change_reply settings s ask p is other);
  leads = ap (λ (r : List ℕ × FileState). r.1) (file_turn_is settings (over s last) ask other) ∙ sym (change_next settings s ask p is other last same);
  changes = changes;
}

not_refused : (reply : TurnReply) (bytes : List ℕ) (refusal : FrameRefusal) → reply ≡ Done bytes → reply ≡ Refused refusal → ⊥
not_refused reply bytes refusal done refused = cc

pub changed : (settings : Settings) (s : State) (ask : Ask) (p : Pending) (last : Option (List ℕ × List ℕ)) → IsPending settings s ask p → IsPendingDue s ask p → ((told : Answer) → p ≡ pending.Nothing told → ⊥)
    → IsFileTurn settings (over s last) ask (turn_of s p).reply (next_state (over s last) p)
changed settings s ask (pending.Nothing told) last is due change = absurd (change told refl)
changed settings s ask (pending.Program name image text) last is due change =
    let (file, e, hash, loads) = is.asked in
    let other = no_last_program ask file e in
    let reply : (turn settings (bare s) (Program file)).reply ≡ Done text.items = subst (λ (a : Ask). (turn settings (bare s) a).reply ≡ Done text.items) e (change_reply settings s ask _ is other) in
    turned settings s ask _ last is other (program_behind settings s last ask file e)
    (subst (λ (a : Ask). MayChange settings (over s last) a) (sym e) (λ refusal refused. not_refused _ text.items refusal reply refused))
changed settings s ask (pending.Forget name) last is due change =
    let other = no_last_forget ask name is.asked in
    let reply : (turn settings (bare s) (Forget name)).reply ≡ Done [] = subst (λ (a : Ask). (turn settings (bare s) a).reply ≡ Done []) is.asked (change_reply settings s ask _ is other) in
    turned settings s ask _ last is other (forget_behind settings s last ask name is.asked)
    (subst (λ (a : Ask). MayChange settings (over s last) a) (sym is.asked) (λ refusal refused. not_refused _ [] refusal reply refused))
changed settings s ask (pending.Frame frame) last is due change =
    let (bytes, e) = is.asked in
    let other = no_last_frame ask bytes e in
    let low : s.height < greatest_height = subst (λ (a : Ask). IsPendingDue s a (pending.Frame frame)) e due in
    turned settings s ask _ last is other (frame_behind settings s last ask bytes frame e low (subst (λ (a : Ask). turn_of s (pending.Frame frame) ≡ turn settings s a) e is.turn))
    (subst (λ (a : Ask). MayChange settings (over s last) a) (sym e) low)
changed settings s ask (pending.Begin begin) last is due change =
    let (bytes, e) = is.asked in
    let other = no_last_begin ask begin.height begin.digest bytes e in
    let reply : (turn settings (bare s) (Begin begin.height begin.digest bytes)).reply ≡ Done [] = subst (λ (a : Ask). (turn settings (bare s) a).reply ≡ Done []) e (change_reply settings s ask _ is other) in
    turned settings s ask _ last is other (begun_behind settings s last ask begin.height begin.digest bytes e (change_reply settings s ask _ is other))
    (subst (λ (a : Ask). MayChange settings (over s last) a) (sym e) (λ refusal refused. not_refused _ [] refusal reply refused))

-- ---- its answer

-- the reply to what was made
pub made_reply : (s : State) (p : Pending) (given : Answer) (after : State) → ((told : Answer) → p ≡ pending.Nothing told → ⊥) → IsPendingMade s p given after → reply_in after given ≡ (turn_of s p).reply
made_reply s (pending.Nothing told) given after change is = absurd (change told refl)
made_reply s (pending.Program name image text) (answer.Failed failure) after change is = absurd is.0
made_reply s (pending.Program name image text) (answer.Storage buffer) after change is = absurd is
made_reply s (pending.Program name image text) given after change is = is.0
made_reply s (pending.Forget name) (answer.Failed failure) after change is = absurd is.0
made_reply s (pending.Forget name) (answer.Storage buffer) after change is = absurd is
made_reply s (pending.Forget name) given after change is = is.0
made_reply s (pending.Frame frame) (answer.Failed failure) after change is = absurd is.0
made_reply s (pending.Frame frame) (answer.Storage buffer) after change is = absurd is
made_reply s (pending.Frame frame) given after change is = is.0
made_reply s (pending.Begin begin) (answer.Failed failure) after change is = absurd is.0
made_reply s (pending.Begin begin) (answer.Storage buffer) after change is = absurd is
made_reply s (pending.Begin begin) given after change is = is.0

module _ (settings : Settings) (s : State) (found : Option AnswerRow) (ask : Ask) (p : Pending) (was now : Trees → Type 0) (v w : View) (m n : ℕ) where
  abbrev last_now : Option (List ℕ × List ℕ)
  last_now = last_of s.last (option_map answer_parts found)

  abbrev Turned : Type 0
  Turned = IsFileTurn settings (over s last_now) ask (turn_of s p).reply (next_state (over s last_now) p)

  leaves : Turned → ((db : Trees) → now db → was db ⊎ HoldsState settings (next_state (over s last_now) p) db) → Leaves settings (over s last_now) ask was now
  leaves is crash db left = elim (crash db left) [ inl before ↦ inl before | inr next ↦ inr (subst (λ (f : FileState). HoldsState settings f db) (sym is.leads) next) ]

  -- a change that was kept
  pub kept_answer : (given : Answer) (after : State) (later : FileState) → Turned → IsLater (moment (over s last_now) v m) (moment later w n)
      → reply_in after given ≡ (turn_of s p).reply → later ≡ next_state (over s last_now) p
      → ((db : Trees) → now db → was db ⊎ HoldsState settings (next_state (over s last_now) p) db)
      → IsFileAnswer settings (moment (over s last_now) v m) ask (turn_reply_text (reply_in after given)) (moment later w n) × Leaves settings (over s last_now) ask was now
  kept_answer given after later is since reply same crash = ((since, inl (ap turn_reply_text reply ∙ sym is.text, same ∙ sym is.leads)), leaves is crash)

  abbrev Caused : StoreError → Type 0
  Caused error = IsClean w → HasCause v (MoreFaults m n) (IsBeyond settings s p) error

  -- the format has no room for what the request leaves
  beyond : Turned → IsBeyond settings s p → IsBeyondFormat settings (file_turn settings (over s last_now) ask).1
  beyond is none = subst (λ (f : FileState). IsBeyondFormat settings f) (sym is.leads) (none last_now)

  not_broken : (b : Bool) → b ≡ false → IsTrue b → ⊥
  not_broken b is t = cc

  -- what is reported of a failure has its cause
  refused_for : (f : FileState) → Turned → (IsClean w → v.is_broken ≡ false) → (error : StoreError) → Caused error
      → MayRefuse settings (moment (over s last_now) v m) ask (fault_of_store error) (moment f w n)
  refused_for f is sound store.OutOfMemory cause = tt
  refused_for f is sound store.Io cause = cause
  refused_for f is sound store.Corrupt cause = cause
  refused_for f is sound store.Broken cause = λ clean. absurd (not_broken v.is_broken (sound clean) (cause clean))
  refused_for f is sound store.Full cause = inl cause
  refused_for f is sound store.Unstorable cause = inr (λ clean. beyond is (cause clean))

  -- a change that was not kept
  pub not_kept : (later : Option AnswerRow) (after : State) (is_shut : Bool) (fault : KeepFault) → IsPendingChange settings s ask p → Turned → MayFailToKeep p fault → after ≡ s → later ≡ found
      → ((db : Trees) → now db → was db ⊎ HoldsState settings (next_state (over s last_now) p) db)
      → IsLater (moment (over s last_now) v m) (moment (file_state after later) w n) → (IsClean w → v.is_broken ≡ false)
      → (IsClean w → IsKeepCause v (MoreFaults m n) (IsBeyond settings s p) fault) → (is_shut ≡ true → IsClean w → MoreFaults m n)
      → AnswersOrShutsFile settings (moment (file_state s found) v m) ask (unkept_reply is_shut fault) after later (moment (file_state after later) w n) × Leaves settings (over s last_now) ask was now
  not_kept later after is_shut fault change is wanted same_state same_found crash since sound cause shut = go is_shut fault wanted cause shut
    where
      same : file_state after later ≡ file_state s found
      same = (λ j. file_state (same_state j) (same_found j))

      go : (b : Bool) (e : KeepFault) → MayFailToKeep p e → (IsClean w → IsKeepCause v (MoreFaults m n) (IsBeyond settings s p) e) → (b ≡ true → IsClean w → MoreFaults m n)
          → AnswersOrShutsFile settings (moment (file_state s found) v m) ask (unkept_reply b e) after later (moment (file_state after later) w n) × Leaves settings (over s last_now) ask was now
      go true (Room failure) wants why failed = (record { later = since; failed = failed refl; cause = tt; may = is.changes; same = same }, leaves is crash)
      go true (Store error) wants why failed = (record { later = since; failed = failed refl; cause = refused_for (file_state after later) is sound error why; may = is.changes; same = same }, leaves is crash)
      go false (Room failure) wants why failed = ((since, inr (inl (failure, may_fail_bare settings s ask failure (change.room failure wants), refl, same))), leaves is crash)
      go false (Store error) wants why failed = ((since, inr (inr (fault_of_store error, refused_for (file_state after later) is sound error why, is.changes, refl, same))), leaves is crash)

pub change_of : (settings : Settings) (s : State) (ask : Ask) (p : Pending) → IsPending settings s ask p → ((told : Answer) → p ≡ pending.Nothing told → ⊥) → IsPendingChange settings s ask p
change_of settings s ask (pending.Nothing told) is change = absurd (change told refl)
change_of settings s ask p is change = is
