-- Marking a key of a call that a worker aborts keeps the invariant.
use Rattle.std.proofs.Common.{◌≡◌, ◌<◌, ◌≢◌, ◌⊎◌, ◌||◌, cond, ℕ, Bool, true, false, option_map, List, ◌∷◌, length, Some, arith, refl, sym, ap, subst, ◌∙◌, inl, inr, length-set}
use Rattle.std.specs.Ordering.{eq_by_cmp, is_eq}
use Rattle.std.specs.Cmp.{tied_itself}
use Rattle.std.specs.Cmp.Lexicographic.{nat_list_cmp_total}
use Rattle.std.proofs.lemmas.Bool.{cases_lt}
use Rattle.rv_ledger.specs.Key.{key_cmp}
use Rattle.mvmap.specs.Versions.{Estimate, changed, entry_at}
use Rattle.stm_state.specs.declared.state.Status.TheVariants.{Aborting}
use Rattle.stm_state.specs.declared.state.Task.TheVariants.{Idle, Marking}
use Rattle.stm_state.specs.State.{State, call_at, task_at}
use Rattle.stm_state.specs.Steps.{Block, after_mark_estimate}
use Rattle.stm_state.specs.Parts.{has_key}
use Rattle.stm_state.proofs.Invariant.{view_of, ViewInvariant, Invariant, IsToBeLowered, AreUnderWay, IsMarked, IsUnmarkedEntry, estimate_of, lowered_by, named_by, owned_by}
use Rattle.stm_state.proofs.Lists.{stays_at, set_at}
use Rattle.stm_state.proofs.OneCallChanges.{Frame, StatusOwes, frame_kept, keeps_itself}
use Rattle.stm_state.proofs.SafeReads.{on_below, safe_ahead, safe_other}
use Rattle.stm_state.proofs.Tests.{resized}
use Rattle.stm_state.proofs.KeyTargets.{amid_step, amid_cases}
use Rattle.stm_state.proofs.Writes.{changed_at, changed_other, or_true}

module _ (block : Block) (s : State) (w i : ℕ) (key : List ℕ) (keys : List (List ℕ)) (f : ViewInvariant block (view_of s)) (marks : task_at s w ≡ Marking i (key ∷ keys)) (w_in : w < length s.tasks) where
  -- the entries of call i are on their way to estimates
  is_marked : IsMarked (call_at s i) (λ k. entry_at s.versions k i) (key ∷ keys)
  is_marked = f.marking w i (key ∷ keys) marks

  is_aborting : (call_at s i).status ≡ Aborting
  is_aborting = is_marked.aborting

  -- the run wrote the key, so its estimate is the target
  is_target : estimate_of (call_at s i) key ≡ Some Estimate
  is_target = ap (option_map (λ content. Estimate)) (is_marked.written key (ap (λ o. is_eq o || has_key key keys) (tied_itself nat_list_cmp_total key))).1

  -- the state after the mark
  abbrev after : State
  after = after_mark_estimate w i key keys s

  -- other calls keep their entries
  entry_other : (k : List ℕ) (j : ℕ) → j ≢ i → entry_at after.versions k j ≡ entry_at s.versions k j
  entry_other k j ne = changed_other s.versions key i (Some Estimate) k j ne

  -- an entry of call i stays, or its key was still to be marked
  entry_cases : (k : List ℕ) → (entry_at after.versions k i ≡ entry_at s.versions k i) ⊎ IsUnmarkedEntry (call_at s i).incarnation (entry_at s.versions k i)
  entry_cases k = subst (λ o. (entry_at (changed s.versions (key, i) o) k i ≡ entry_at s.versions k i) ⊎ IsUnmarkedEntry (call_at s i).incarnation (entry_at s.versions k i)) is_target
      (amid_cases (estimate_of (call_at s i)) (λ k entry. IsUnmarkedEntry (call_at s i).incarnation entry) s.versions i key keys is_marked.amid k)

  -- an entry of call i is as before, or an estimate
  entry_now : (k : List ℕ) → (entry_at after.versions k i ≡ entry_at s.versions k i) ⊎ (entry_at after.versions k i ≡ Some Estimate)
  entry_now k = go (eq_by_cmp key_cmp k key) (changed_at s.versions key i (Some Estimate) k)
    where
      go : (b : Bool) → entry_at after.versions k i ≡ cond b (Some Estimate) (entry_at s.versions k i) → (entry_at after.versions k i ≡ entry_at s.versions k i) ⊎ (entry_at after.versions k i ≡ Some Estimate)
      go true h = inr h
      go false h = inl h

  -- the entries of call i are still on their way
  still_marked : IsMarked (call_at s i) (λ k. entry_at after.versions k i) keys
  still_marked = record {
    aborting = is_aborting;
    unparked = is_marked.unparked;
    written = λ k h. is_marked.written k (or_true (eq_by_cmp key_cmp k key) (has_key k keys) h);
    amid = subst (λ o. AreUnderWay (estimate_of (call_at s i)) (λ k entry. IsUnmarkedEntry (call_at s i).incarnation entry) (λ k. entry_at (changed s.versions (key, i) o) k i) keys) is_target
        (amid_step (estimate_of (call_at s i)) (λ k entry. IsUnmarkedEntry (call_at s i).incarnation entry) s.versions i key keys is_marked.amid);
  }

  -- what a mark changes
  mark_frame : Frame block (view_of s) (view_of after) i w (call_at s i) (Marking i keys)
  mark_frame = record {
    calls = stays_at (call_at s) i;
    tasks = set_at s.tasks w (Marking i keys) Idle w_in;
    entries = record {
      others = λ j k ne. entry_other k j ne;
      versions = λ k n x h. elim (entry_cases k) [ inl same ↦ inl (same ∙ h) | inr old ↦ let version = old.1 in inr (inr (cc, is_aborting)) ];
      known = λ k n x h. elim (entry_now k) [ inl same ↦ inl (sym same ∙ h) | inr estimate ↦ cc ];
    };
    execution = inl (omega arith);
    validation = inl (omega arith);
    within = f.named w i (ap named_by marks);
    owner = inl (ap owned_by marks);
    by_task = (refl, still_marked);
    by_status = subst (StatusOwes (view_of s) s.execution i (call_at s i) (Marking i keys)) (sym is_aborting) (f.aborting_limit i is_aborting, inr refl);
    grows = inr (keeps_itself (call_at s i));
    own_entries = λ ne. absurd (ne refl);
    recorded = f.recorded i;
  }

  -- this task covers the calls above call i
  is_ahead : (j : ℕ) → i < j → IsToBeLowered (task_at after) j
  is_ahead j l = record { worker = w; call = i; task = ap lowered_by mark_frame.tasks.there; lower = l }

  -- marking a key keeps the invariant: calls below do not see it, and calls above are validated again
  pub marked_facts : ViewInvariant block (view_of (after_mark_estimate w i key keys s))
  marked_facts = frame_kept block (view_of s) (view_of after) i w (call_at s i) (Marking i keys) mark_frame f (λ h. let r = is_aborting in cc) (λ j ne h l. elim (cases_lt j i) [
    | inl below ↦ safe_other block (view_of s) (view_of after) i w (call_at s i) (Marking i keys) mark_frame f j ne (λ left failed k. cc) (λ _ above. is_ahead j above)
        (on_below (view_of s) (view_of after) j (λ k x low. entry_other k x (omega (arith, low, below)))) (f.safe j h l)
    | inr above ↦ safe_ahead (view_of after) j (is_ahead j (omega (arith, above, ne)))
  ])

-- marking a key keeps the invariant
pub mark_kept : (block : Block) (workers w i : ℕ) (key : List ℕ) (keys : List (List ℕ)) (s : State) → Invariant block workers s → w < workers → task_at s w ≡ Marking i (key ∷ keys) → Invariant block workers (after_mark_estimate w i key keys s)
mark_kept block workers w i key keys s h w_in marks = record {
  sized = resized block.count workers s _ refl (length-set s.tasks w _) refl refl h.sized;
  facts = marked_facts block s w i key keys h.facts marks (let e = h.sized.tasks in omega (arith, e));
}
