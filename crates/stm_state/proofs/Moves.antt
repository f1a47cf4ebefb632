-- Moving a key of a recorded run keeps the invariant.
use Rattle.std.proofs.Common.{◌≡◌, ◌<◌, ◌≢◌, ◌⊎◌, ℕ, Bool, true, false, List, ◌∷◌, length, Some, arith, refl, sym, ap, subst, ◌∙◌, inl, inr, length-set}
use Rattle.std.specs.Ordering.{eq_by_cmp}
use Rattle.std.proofs.lemmas.Bool.{cases_eq, cases_lt}
use Rattle.rv_ledger.specs.Change.{ContentChange}
use Rattle.rv_ledger.specs.Key.{key_cmp}
use Rattle.mvmap.specs.Versions.{Estimate, Stands, entry_at}
use Rattle.stm_state.specs.declared.state.Status.TheVariants.{Executing, Executed}
use Rattle.stm_state.specs.declared.state.Task.TheVariants.{Idle, Moving}
use Rattle.stm_state.specs.State.{State, call_at, task_at}
use Rattle.stm_state.specs.Steps.{Block, after_move_key, version_of, write_of}
use Rattle.stm_state.specs.Parts.{IsPast, has_key}
use Rattle.stm_state.proofs.Invariant.{view_of, ViewInvariant, AreSafe, Invariant, IsToBeLowered, IsMoved, IsUnmovedEntry, lowered_by, named_by, owned_by, run_by}
use Rattle.stm_state.proofs.Lists.{stays_at, set_at}
use Rattle.stm_state.proofs.OneCallChanges.{Frame, frame_kept, keeps_itself, still_executing}
use Rattle.stm_state.proofs.SafeReads.{StandsOn, on_below, on_estimates, safe_ahead, safe_other}
use Rattle.stm_state.proofs.Tests.{resized}
use Rattle.stm_state.proofs.Writes.{changed_other, or_true, version_is}
use Rattle.stm_state.proofs.KeyTargets.{amid_step, amid_cases, left_stays}

module _ (block : Block) (s : State) (w i : ℕ) (key : List ℕ) (keys : List (List ℕ)) (new : Bool) (f : ViewInvariant block (view_of s)) (moves : task_at s w ≡ Moving i (key ∷ keys) new) (w_in : w < length s.tasks) where
  is_executing : (call_at s i).status ≡ Executing
  is_executing = f.running w i (ap run_by moves)

  -- the entries of call i are on their way to the versions of its run
  is_moved : IsMoved (call_at s i) (λ k. entry_at s.versions k i) (key ∷ keys) new
  is_moved = f.moving w i (key ∷ keys) new moves

  -- the state after the move
  abbrev after : State
  after = after_move_key w i key keys new s

  -- other calls keep their entries
  entry_other : (k : List ℕ) (j : ℕ) → j ≢ i → entry_at after.versions k j ≡ entry_at s.versions k j
  entry_other k j ne = changed_other s.versions key i (version_of (call_at s i) key) k j ne

  -- an entry of call i stays, or its key was still to be moved
  entry_cases : (k : List ℕ) → (entry_at after.versions k i ≡ entry_at s.versions k i) ⊎ IsUnmovedEntry new (entry_at s.versions k i)
  entry_cases k = amid_cases (version_of (call_at s i)) (λ k entry. IsUnmovedEntry new entry) s.versions i key keys is_moved.amid k

  -- the entries of call i are still on their way
  still_moved : IsMoved (call_at s i) (λ k. entry_at after.versions k i) keys new
  still_moved = record {
    run = is_moved.run;
    below = is_moved.below;
    amid = amid_step (version_of (call_at s i)) (λ k entry. IsUnmovedEntry new entry) s.versions i key keys is_moved.amid;
    distinct = is_moved.distinct.1;
    unmoved = λ k left. subst (λ o. IsUnmovedEntry new o) (sym (left_stays s.versions i key keys (version_of (call_at s i) key) is_moved.distinct.0 k left))
        (is_moved.unmoved k (or_true (eq_by_cmp key_cmp k key) (has_key k keys) left));
  }

  -- a version of call i that stands afterwards is at the call's incarnation
  at_incarnation : (k : List ℕ) (n : ℕ) (x : ContentChange) → entry_at after.versions k i ≡ Some (Stands n x) → n ≡ (call_at s i).incarnation
  at_incarnation k n x h = elim (still_moved.amid k) [
    | inl there ↦ (version_is (write_of (call_at s i).last k) (call_at s i).incarnation n x (sym there ∙ h)).0
    | inr q ↦ elim q.1 [ inl estimate ↦ cc | inr none ↦ let is_none = none.0 in cc ]
  ]

  none_stood : (k : List ℕ) (n : ℕ) → IsUnmovedEntry new (entry_at s.versions k i) → (y : ContentChange) → entry_at s.versions k i ≢ Some (Stands n y)
  none_stood k n old y h = elim old [ inl estimate ↦ cc | inr none ↦ let is_none = none.0 in cc ]

  -- no version of that incarnation may be gone
  not_past : (n : ℕ) → n ≡ (call_at s i).incarnation → IsPast (call_at s i) n → ⊥
  not_past n at h = let e = is_executing in elim h [ inl old ↦ omega (arith, old, at) | inr q ↦ let r = q.1 in cc ]

  -- what a move changes
  move_frame : Frame block (view_of s) (view_of after) i w (call_at s i) (Moving i keys new)
  move_frame = record {
    calls = stays_at (call_at s) i;
    tasks = set_at s.tasks w (Moving i keys new) Idle w_in;
    entries = record {
      others = λ j k ne. entry_other k j ne;
      versions = λ k n x h. elim (entry_cases k) [ inl same ↦ inl (same ∙ h) | inr old ↦ elim old [ inl estimate ↦ cc | inr none ↦ let is_none = none.0 in cc ] ];
      known = λ k n x h. elim (entry_cases k) [ inl same ↦ inl (sym same ∙ h) | inr old ↦ inr (none_stood k n old, not_past n (at_incarnation k n x h)) ];
    };
    execution = inl (omega arith);
    validation = inl (omega arith);
    within = f.named w i (ap named_by moves);
    owner = inl (ap owned_by moves);
    by_task = (refl, is_executing, still_moved);
    by_status = still_executing block (view_of s) f i (Moving i keys new) is_executing;
    grows = inr (keeps_itself (call_at s i));
    own_entries = λ ne. absurd (ne refl);
    recorded = f.recorded i;
  }

  -- with a new key this task covers the calls above call i
  is_ahead : new ≡ true → (j : ℕ) → i < j → IsToBeLowered (task_at after) j
  is_ahead new_key j l = record { worker = w; call = i; task = ap lowered_by (move_frame.tasks.there ∙ ap (Moving i keys) new_key); lower = l }

  -- reads of lower calls that stand still stand
  below_stands : (j : ℕ) → j < i → StandsOn (view_of s) (view_of after) j
  below_stands j l = on_below (view_of s) (view_of after) j (λ k x low. entry_other k x (omega (arith, low, l)))

  -- without a new key, reads of any call that stand still stand
  all_stands : new ≡ false → (j : ℕ) → StandsOn (view_of s) (view_of after) j
  all_stands no_new j = on_estimates (view_of s) (view_of after) j (λ k x. elim (cases_eq x i) [
    | inr ne ↦ inl (entry_other k x ne)
    | inl e ↦ subst (λ y. (entry_at after.versions k y ≡ entry_at s.versions k y) ⊎ (entry_at s.versions k y ≡ Some Estimate)) (sym e)
        (elim (entry_cases k) [ inl same ↦ inl same | inr old ↦ elim old [ inl estimate ↦ inr estimate | inr none ↦ let is_new = none.1 in cc ] ])
  ])

  -- a task that lowers the validation index has a new key
  lowers_new : (b : Bool) → lowered_by (Moving i (key ∷ keys) b) ≡ Some i → b ≡ true
  lowers_new true h = refl
  lowers_new false h = cc

  -- the reads of another call stay safe, if its reads that stand still stand
  still_safe : (j : ℕ) → j ≢ i → StandsOn (view_of s) (view_of after) j → AreSafe (view_of s) j → AreSafe (view_of after) j
  still_safe j ne stood h = safe_other block (view_of s) (view_of after) i w (call_at s i) (Moving i keys new) move_frame f j ne (λ left failed k. cc)
      (λ k l. is_ahead (lowers_new new (ap lowered_by (sym moves) ∙ k)) j l) stood h

  -- reads of another call stay safe
  others_safe : (j : ℕ) → j ≢ i → (call_at s j).status ≡ Executed → j < s.validation → AreSafe (view_of after) j
  others_safe j ne h l = go new refl
    where
      go : (b : Bool) → new ≡ b → AreSafe (view_of after) j
      go false no_new = still_safe j ne (all_stands no_new j) (f.safe j h l)
      go true new_key = elim (cases_lt j i) [
        | inl below ↦ still_safe j ne (below_stands j below) (f.safe j h l)
        | inr above ↦ safe_ahead (view_of after) j (is_ahead new_key j (omega (arith, above, ne)))
      ]

  -- moving a key keeps the invariant
  pub moved_facts : ViewInvariant block (view_of (after_move_key w i key keys new s))
  moved_facts = frame_kept block (view_of s) (view_of after) i w (call_at s i) (Moving i keys new) move_frame f (λ h. let r = is_executing in cc) others_safe

-- moving a key keeps the invariant
pub move_kept : (block : Block) (workers w i : ℕ) (key : List ℕ) (keys : List (List ℕ)) (new : Bool) (s : State) → Invariant block workers s → w < workers → task_at s w ≡ Moving i (key ∷ keys) new → Invariant block workers (after_move_key w i key keys new s)
move_kept block workers w i key keys new s h w_in moves = record {
  sized = resized block.count workers s _ refl (length-set s.tasks w _) refl refl h.sized;
  facts = moved_facts block s w i key keys new h.facts moves (let e = h.sized.tasks in omega (arith, e));
}
