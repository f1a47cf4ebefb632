-- A change that was kept.
use Rattle.std.proofs.Common.{◌≡◌, ◌⊎◌, ℕ, Bool, true, List, Option, Some, None, IsTrue, false, inl, inr, refl, sym, ap, subst, ◌∙◌, arith}
use Rattle.std.specs.Option.{option_map}
use Rattle.session_tree.proofs.Tries.{Quiet}
use Rattle.session_file.specs.Kept.{HoldsIn, Kept}
use Rattle.session_file.specs.Opening.{answer_parts}
use Rattle.session_file.specs.Staging as file
use Rattle.session_file.proofs.Staged.{sound_open}
use Rattle.session_file.specs.declared.rows.AnswerRow.{AnswerRow}
use Rattle.session_states.specs.States.{FileState, KeepsState, file_state, last_of, kept_text}
use Rattle.sqlite_trees.specs.Tree.{Trees}
use Rattle.sqlite_trees.specs.View.{View}
use Rattle.sqlite_trees.specs.declared.store.Store.{Ghosts}
use Rattle.session_turns.specs.Pending.{IsPendingMade, after_run_of, turn_of}
use Rattle.session_turns.specs.declared.answer.Answer.{Answer}
use Rattle.session_turns.specs.declared.answer.Answer.TheVariants as answer
use Rattle.session_turns.specs.declared.pending.Pending.{Pending}
use Rattle.session_turns.specs.declared.pending.Pending.TheVariants as pending
use Rattle.session_turns.specs.declared.pending.PendingRun.{PendingRun}
use Rattle.session_turns.specs.declared.settings.Settings.{Settings}
use Rattle.session_turns.specs.declared.state.State.{State}
use Rattle.session_durability.specs.Durable.{HoldsState}
use Rattle.session_durability.specs.Keeping.{IsFoundBehind, IsKeptBy, Spares, IsPendingStaged, next_state}

-- the state after what was made
pub made_after : (s : State) (p : Pending) (given : Answer) (after : State) → IsPendingMade s p given after → after ≡ (turn_of s p).after
made_after s (pending.Nothing told) given after is = is.1
made_after s (pending.Program name image text) (answer.Failed failure) after is = absurd is.0
made_after s (pending.Program name image text) (answer.Storage buffer) after is = absurd is
made_after s (pending.Program name image text) given after is = is.1
made_after s (pending.Forget name) (answer.Failed failure) after is = absurd is.0
made_after s (pending.Forget name) (answer.Storage buffer) after is = absurd is
made_after s (pending.Forget name) given after is = is.1
made_after s (pending.Frame frame) (answer.Failed failure) after is = absurd is.0
made_after s (pending.Frame frame) (answer.Storage buffer) after is = absurd is
made_after s (pending.Frame frame) given after is = is.1
made_after s (pending.Begin begin) (answer.Failed failure) after is = absurd is.0
made_after s (pending.Begin begin) (answer.Storage buffer) after is = absurd is
made_after s (pending.Begin begin) given after is = is.1

framed : (s : State) (run : Option PendingRun) (height : ℕ) (digest : Option (List ℕ))
    → record (after_run_of s run) { height = height; digest = digest; last = None } ≡ record (after_run_of (record s { last = None }) run) { height = height; digest = digest; last = None }
framed s None height digest = refl
framed s (Some run) height digest = refl

made_state : (s : State) (found later : Option AnswerRow) (p : Pending) → IsFoundBehind p found later → file_state (turn_of s p).after later ≡ next_state (file_state s found) p
made_state s found later (pending.Nothing told) is = ap (file_state s) is
made_state s found later (pending.Program name image text) is = ap (file_state (turn_of s (pending.Program name image text)).after) is
made_state s found later (pending.Forget name) is = ap (file_state (turn_of s (pending.Forget name)).after) is
made_state s found later (pending.Frame frame) is = λ j. record { state = framed s frame.run frame.height frame.digest j; last = Some (kept_text frame.answer) }
made_state s found later (pending.Begin begin) is = ap (file_state (turn_of s (pending.Begin begin)).after) is

pub next_is : (s after : State) (found later : Option AnswerRow) (p : Pending) (given : Answer) → IsPendingMade s p given after → IsFoundBehind p found later
    → file_state after later ≡ next_state (file_state s found) p
next_is s after found later p given is behind = ap (λ (z : State). file_state z later) (made_after s p given after is) ∙ made_state s found later p behind

-- ---- the file

module _ (settings : Settings) (s : State) (found : Option AnswerRow) (old : View) where
  abbrev kept_before : Type 0
  kept_before = IsKeptBy settings old (file_state s found)

  pub kept_still : (new : View) → Spares settings s old new → kept_before → IsKeptBy settings new (file_state s found)
  kept_still new spares (k, keeps, is) = (k, keeps, spares (last_of s.last (option_map answer_parts found)) k keeps is)

  -- what was staged is given up
  pub kept_again : (p : Pending) (mid new : View) → IsPendingStaged settings s p old mid → file.GivesUp mid new → kept_before → IsKeptBy settings new (file_state s found)
  kept_again p mid new stages gives (k, keeps, is) =
      let (staged, next, now) = stages (last_of s.last (option_map answer_parts found)) k keeps is in (k, keeps, gives k staged now)

  -- what was staged is kept
  pub kept_next : (p : Pending) (mid new : View) (after : FileState) → IsPendingStaged settings s p old mid → file.CommitsStaged mid new → after ≡ next_state (file_state s found) p → kept_before → IsKeptBy settings new after
  kept_next p mid new after stages commits same (k, keeps, is) =
      let (staged, next, now) = stages (last_of s.last (option_map answer_parts found)) k keeps is in
      (staged, subst (λ (f : FileState). KeepsState settings f staged) (sym same) next, commits k staged now)

  -- what a crash in the commit leaves
  pub may_leave : (p : Pending) (mid : View) (db : Trees) (before : Type 0) → IsPendingStaged settings s p old mid → kept_before
      → ((kept next : Kept) → file.IsStaged mid kept next → HoldsIn db next ⊎ before) → before ⊎ HoldsState settings (next_state (file_state s found) p) db
  may_leave p mid db before stages (k, keeps, is) leaves =
      let (staged, next, now) = stages (last_of s.last (option_map answer_parts found)) k keeps is in
      elim (leaves k staged now) [ inl holds ↦ inr (staged, holds, next) | inr was ↦ inl was ]

-- ---- why a change is not kept

-- only a failure of the disk shuts a file that was open
pub shut_failed : (settings : Settings) (old new : View) (failed : Type 0) (f : FileState) → (old.is_open ≡ false → IsTrue old.is_broken) → old.is_broken ≡ false → IsKeptBy settings new f
    → (IsTrue old.is_open → IsTrue new.is_open ⊎ failed) → new.is_broken ≡ true → failed
shut_failed settings old new failed f shut sound (k, keeps, is) closes broken =
    elim (closes (sound_open old shut sound)) [ inl still ↦ absurd (both new.is_broken (is still).sound broken) | inr more ↦ more ]
  where
    both : (b : Bool) → b ≡ false → b ≡ true → ⊥
    both b shown told = cc

-- no failure is forgotten from one call to the next
pub lasts_quiet : {S : Type 0} (g : Ghosts S) (old new : S) → Quiet g old new → file.Lasts g old new
lasts_quiet g old new q = record { clean = q.clean; counts = q.counts; closes = q.closes }

pub lasts_on : {S : Type 0} (g : Ghosts S) (old mid new : S) → file.Lasts g old mid → file.Lasts g mid new → file.Lasts g old new
lasts_on g old mid new a b = record {
  clean = omega (arith, a.clean, b.clean);
  counts = omega (arith, a.counts, b.counts);
  closes = λ clean was. elim (a.closes (omega (arith, b.clean, clean)) was) [
    | inl still ↦ elim (b.closes clean still) [ inl now ↦ inl now | inr more ↦ inr (omega (arith, a.counts, more)) ]
    | inr more ↦ inr (omega (arith, b.counts, more))
  ];
}
