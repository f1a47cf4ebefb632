-- What is pending, staged.
use Rattle.std.proofs.Common.{◌≡◌, ◌≤◌, ℕ, List, length, Option, Some, None, Result, Ok, OnErr, OnOk, inl, inr, refl, sym, ap, subst, ◌∙◌, arith}
use Rattle.std.proofs.lemmas.Result.{IfErr-weaker, on_ok_weaker}
use Rattle.std.specs.Prelude.{⊤}
use Rattle.std.specs.Arc.{arc_value}
use Rattle.std.specs.FinMap as fin
use Rattle.sha2.specs.Sha256.{sha256}
use Rattle.sha2.proofs.Facts256.{length-sha256}
use Rattle.programs.specs.Programs.{file_limit}
use Rattle.session_tree.proofs.Causes.{later_cause, other_limit}
use Rattle.session_tree.proofs.Tries.{quiet_on}
use Rattle.session_tree.specs.Entries.{IsTooLong}
use Rattle.elf32.specs.Image.{image_of}
use Rattle.rv_ledger.specs.declared.rules.Rules.{Rules}
use Rattle.session_file.specs.Kept.{Kept}
use Rattle.session_file.specs.Limits.{HasSmallNumbers, IsLongAnswer}
use Rattle.session_file.specs.Staging as staging
use Rattle.session_file.specs.declared.rows.SessionRow.{SessionRow}
use Rattle.session_states.proofs.Changes.{frame_counted, program_forgotten, program_put, session_begun}
use Rattle.session_states.specs.States.{FileState, KeepsState, session_row_of, kept_text}
use Rattle.sqlite_trees.specs.View.{View}
use Rattle.sqlite_trees.specs.declared.error.StoreError.{StoreError}
use Rattle.sqlite_trees.specs.declared.store.Store.{Ghosts}
use Rattle.session_turns.specs.Pending.{after_run_of, turn_of}
use Rattle.session_turns.specs.declared.answer.Answer.{Answer}
use Rattle.session_turns.specs.declared.pending.Pending.{Pending}
use Rattle.session_turns.specs.declared.pending.Pending.TheVariants as pending
use Rattle.session_turns.specs.declared.pending.PendingBegin.{PendingBegin}
use Rattle.session_turns.specs.declared.pending.PendingFrame.{PendingFrame}
use Rattle.session_turns.specs.declared.pending.PendingRun.{PendingRun}
use Rattle.session_turns.specs.declared.settings.Settings.{Settings}
use Rattle.session_turns.specs.declared.state.State.{State}
use Rattle.session_serving.specs.Asking.{IsStorable}
use Rattle.session_durability.specs.Keeping.{IsBeyond, Spares, IsPendingStaged, StagesRun, next_state, over}

-- a state after a run has the programs of the one before
pub run_programs : (s : State) (run : Option PendingRun) → (after_run_of s run).programs ≡ s.programs
run_programs s None = refl
run_programs s (Some run) = refl

module _ (settings : Settings) (s : State) (old : View) where
  -- what is given up leaves the file as it was
  pub spared : (new : View) → staging.GivesUp old new → Spares settings s old new
  spared new gives last k keeps is = gives k k is

  pub spared_after : (known : Kept → Type 0) (change : Kept → Kept) (mid new : View) → ((last : Option (List ℕ × List ℕ)) (k : Kept) → KeepsState settings (over s last) k → known k)
      → staging.StagesWhere known change old mid → staging.GivesUp mid new → Spares settings s old new
  spared_after known change mid new knows stages gives last k keeps is = gives k (change k) (stages k k (knows last k keeps) is)

  pub spared_far : (known : Kept → Type 0) (change more : Kept → Kept) (one two new : View) → ((last : Option (List ℕ × List ℕ)) (k : Kept) → KeepsState settings (over s last) k → known k)
      → staging.StagesWhere known change old one → staging.StagesKept more one two → staging.GivesUp two new → Spares settings s old new
  spared_far known change more one two new knows first second gives last k keeps is = gives k (more (change k)) (second k (change k) (first k k (knows last k keeps) is))

  -- a program
  pub staged_program : (name file : List ℕ) (image : _) (text : _) (new : View) → (sha256 file ≡ name) × (image_of file ≡ Ok (arc_value image)) × (length file ≤ file_limit)
      → staging.StagesKept (λ next. record next { programs = fin.insert next.programs name file }) old new → IsPendingStaged settings s (pending.Program name image text) old new
  staged_program name file image text new (hash, loads, short) stages last k keeps is =
      (record k { programs = fin.insert k.programs name file }, program_put settings (over s last) k name file (arc_value image) keeps hash loads, stages k k is)

  pub staged_forget : (name : List ℕ) (new : View) → staging.StagesKept (λ next. record next { programs = fin.remove next.programs name }) old new → IsPendingStaged settings s (pending.Forget name) old new
  staged_forget name new stages last k keeps is = (record k { programs = fin.remove k.programs name }, program_forgotten settings (over s last) k name keeps, stages k k is)

  -- a frame
  pub staged_frame : (frame : PendingFrame) (digest : List ℕ) (row : SessionRow) (rules : Rules) (one two new : View)
      → frame.digest ≡ Some digest
      → row ≡ session_row_of settings rules frame.height digest
      → ((t : State) → t.rules ≡ s.rules → rules ≡ (after_run_of t frame.run).rules)
      → StagesRun s.store frame.run old one → staging.StagesKept (λ next. record next { session = Some row }) one two → staging.StagesKept (λ next. record next { answer = Some (kept_text frame.answer) }) two new
      → IsPendingStaged settings s (pending.Frame frame) old new
  staged_frame frame digest row rules one two new kept_digest is_row is_rules first second third last k keeps is =
      let f : FileState = over s last in
      let after : State = record (turn_of f.state (pending.Frame frame)).after { last = None } in
      let same_row : row ≡ session_row_of settings after.rules after.height digest = is_row ∙ ap (λ (r : Rules). session_row_of settings r frame.height digest) (is_rules f.state refl) in (
        record k { storage = after.store; session = Some row; answer = Some (kept_text frame.answer) },
        subst (λ (r : SessionRow). KeepsState settings (next_state f (pending.Frame frame)) (record k { storage = after.store; session = Some r; answer = Some (kept_text frame.answer) })) (sym same_row)
            (frame_counted settings f k after digest (Some (kept_text frame.answer)) keeps (run_programs f.state frame.run) kept_digest refl),
        third k _ (second k _ (first f.state refl k k keeps.storage is)),
      )

  -- a session that begins again
  pub staged_begin : (begin : PendingBegin) (digest : List ℕ) (row : SessionRow) (one two new : View)
      → begin.digest ≡ Some digest
      → row ≡ session_row_of settings begin.rules begin.height digest
      → staging.StagesWhere (λ next. next.storage ≡ s.store) (λ next. record next { storage = begin.store }) old one
      → staging.StagesKept (λ next. record next { session = Some row }) one two → staging.StagesKept (λ next. record next { answer = None }) two new
      → IsPendingStaged settings s (pending.Begin begin) old new
  staged_begin begin digest row one two new kept_digest is_row first second third last k keeps is =
      let f : FileState = over s last in
      let after : State = record (turn_of f.state (pending.Begin begin)).after { last = None } in (
        record k { storage = begin.store; session = Some row; answer = None },
        subst (λ (r : SessionRow). KeepsState settings (next_state f (pending.Begin begin)) (record k { storage = begin.store; session = Some r; answer = None })) (sym is_row)
            (session_begun settings f k after digest keeps refl kept_digest refl),
        third k _ (second k _ (first k k keeps.storage is)),
      )

  -- nothing is staged if nothing is pending
  pub staged_nothing : (told : Answer) → IsPendingStaged settings s (pending.Nothing told) old old
  staged_nothing told last k keeps is = (k, keeps, is)

  -- the same, if that is what is pending
  pub nothing_pending : (p : Pending) (told : Answer) → p ≡ pending.Nothing told → IsPendingStaged settings s p old old
  nothing_pending p told is = subst (λ (q : Pending). IsPendingStaged settings s q old old) (sym is) (staged_nothing told)

  pub program_pending : (p : Pending) (name body : List ℕ) (image : _) (text : _) (new : View) → p ≡ pending.Program name image text → IsStorable body p
      → staging.StagesKept (λ next. record next { programs = fin.insert next.programs name body }) old new → IsPendingStaged settings s p old new
  program_pending p name body image text new is can stages =
      subst (λ (q : Pending). IsPendingStaged settings s q old new) (sym is) (staged_program name body image text new (subst (λ (q : Pending). IsStorable body q) is can) stages)

-- ---- why a program is not staged

-- a program that is no longer than one may be has room
pub short_program : (name body : List ℕ) → sha256 body ≡ name → length body ≤ file_limit → IsTooLong name (Some body) → ⊥
short_program name body is short long =
    let key : length name ≡ 32 = ap length (sym is) ∙ length-sha256 body in
    omega (arith, key, short, long)

-- ---- one part after another

-- a part that was staged, or refused, said for more than it
pub staged_as : {S A : Type 0} (g : Ghosts S) {first second given left : View → View → Type 0} {met limit : Type 0} {old new : S} (r : Result A StoreError) → OnOk r (second (g.view old) (g.view new)) → OnErr r (left (g.view old) (g.view new)) → (met → limit)
    → staging.StagesIn g first given met old new r → staging.StagesIn g second left limit old new r
staged_as g {met = met} {limit = limit} {old = old} r ok err weaker t = record {
  ok = ok;
  still = t.still;
  err = err;
  cause = λ clean. IfErr-weaker r _ _ (λ e why. other_limit (g.view old) _ met limit e weaker why) (t.cause clean);
  told = t.told;
  quiet = t.quiet;
}

-- a part after one that was staged
pub staged_after : {S A B : Type 0} (g : Ghosts S) {first given second left third spared : View → View → Type 0} {before met limit : Type 0} {old mid new : S} {x : A} (r : Result B StoreError)
    → OnOk r (third (g.view old) (g.view new)) → OnErr r (spared (g.view old) (g.view new)) → (met → limit)
    → staging.StagesIn g first given before old mid (Ok x) → staging.StagesIn g second left met mid new r → staging.StagesIn g third spared limit old new r
staged_after g {met = met} {limit = limit} {old = old} {mid = mid} {new = new} r ok err weaker a b = record {
  ok = ok;
  still = on_ok_weaker r (λ is clean. is clean ∙ a.still (omega (arith, b.quiet.clean, clean))) b.still;
  err = err;
  cause = λ clean. IfErr-weaker r _ _ (λ e why. later_cause (g.view old) (g.view mid) _ _ _ met limit e a.quiet.counts (a.still (omega (arith, b.quiet.clean, clean))) weaker why) (b.cause clean);
  told = b.told;
  quiet = quiet_on g old mid new a.quiet b.quiet;
}

-- two parts that were staged
pub staged_both : {S A B : Type 0} (g : Ghosts S) {first given second left : View → View → Type 0} {before met : Type 0} {old mid new : S} {x : A} {y : B}
    → staging.StagesIn g first given before old mid (Ok x) → staging.StagesIn g second left met mid new (Ok y) → staging.StagesIn g (λ was now. ⊤) (λ was now. ⊤) met old new (Ok y)
staged_both g {y = y} a b = staged_after g (Ok y) tt tt (λ limit. limit) a b

-- the format has no row for a session of this digest
no_row : (settings : Settings) (rules : Rules) (height : ℕ) (digest : Option (List ℕ)) (own : List ℕ) (row : SessionRow) → digest ≡ Some own → row ≡ session_row_of settings rules height own → ¬ HasSmallNumbers row
    → (other : List ℕ) → digest ≡ Some other → ¬ HasSmallNumbers (session_row_of settings rules height other)
no_row settings rules height digest own row is same not other also small =
    let one : own ≡ other = cc in
    not (subst HasSmallNumbers (ap (session_row_of settings rules height) (sym one) ∙ sym same) small)

pub frame_beyond : (settings : Settings) (s : State) (frame : PendingFrame) (digest : List ℕ) (row : SessionRow) (rules : Rules) → frame.digest ≡ Some digest → row ≡ session_row_of settings rules frame.height digest
    → ((t : State) → t.rules ≡ s.rules → rules ≡ (after_run_of t frame.run).rules) → ¬ HasSmallNumbers row → IsBeyond settings s (pending.Frame frame)
frame_beyond settings s frame digest row rules is same is_rules not last =
    let bare : State = (over s last).state in
    inl (no_row settings (after_run_of bare frame.run).rules frame.height frame.digest digest row is (same ∙ ap (λ (r : Rules). session_row_of settings r frame.height digest) (is_rules bare refl)) not)

pub begin_beyond : (settings : Settings) (s : State) (begin : PendingBegin) (digest : List ℕ) (row : SessionRow) → begin.digest ≡ Some digest → row ≡ session_row_of settings begin.rules begin.height digest
    → ¬ HasSmallNumbers row → IsBeyond settings s (pending.Begin begin)
begin_beyond settings s begin digest row is same not last = inl (no_row settings begin.rules begin.height begin.digest digest row is same not)

one_answer : (a b : List ℕ × List ℕ) → Some a ≡ Some b → a ≡ b
one_answer a b is = cc

pub answer_beyond : (settings : Settings) (s : State) (frame : PendingFrame) → IsLongAnswer (kept_text frame.answer) → IsBeyond settings s (pending.Frame frame)
answer_beyond settings s frame long last = inr (λ answer is. subst IsLongAnswer (one_answer (kept_text frame.answer) answer is) long)
