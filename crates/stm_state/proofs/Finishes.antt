-- Finishing the execution of a call, whose keys are all moved, keeps the invariant.
use Rattle.std.proofs.Common.{◌≡◌, ◌<◌, ◌≤◌, ◌≢◌, ◌⊎◌, nat_lt, ℕ, zero, suc, Bool, true, false, List, [], ◌∷◌, length, map, set, get_or, None, arith, refl, sym, ap, subst, ◌∙◌, inl, inr, length-set}
use Rattle.std.proofs.lemmas.Bool.{cases_eq, cond_both}
use Rattle.std.proofs.lemmas.List.{get_or-set_same, get_or-set_other, length-map}
use Rattle.mvmap.specs.Versions.{entry_at}
use Rattle.stm_state.specs.declared.state.Status.TheVariants.{Executing, Executed, Aborting}
use Rattle.stm_state.specs.declared.state.CallState.{CallState}
use Rattle.stm_state.specs.declared.state.Task.{Task}
use Rattle.stm_state.specs.declared.state.Task.TheVariants.{Idle, Moving, Validating}
use Rattle.stm_state.specs.State.{State, fresh, call_at, task_at, with_call, with_task}
use Rattle.stm_state.specs.Steps.{Block, recorded_reads, is_parked_on, resume_if_parked, least_parked_call, resume_dependents, to_validate, after_finish_execution, version_of}
use Rattle.stm_state.specs.Parts.{IsStateSized}
use Rattle.stm_state.proofs.Invariant.{View, view_of, ViewInvariant, Invariant, IsMoved, IsUnmovedEntry, lowered_by, named_by, owned_by, run_by}
use Rattle.stm_state.proofs.Lists.{set_at}
use Rattle.stm_state.proofs.OneCallChanges.{Frame, Keeps, TaskOwes, entries_stay, keeps_unchecked}
use Rattle.stm_state.proofs.SafeReads.{others_kept, safe_begun}
use Rattle.stm_state.proofs.Tests.{lt_says, not_lt_says, resized}
use Rattle.stm_state.proofs.Resumptions.{woken_view, woken_facts, parked_aborting, not_parked, none_parked, lowered_low, lowered_at}
use Rattle.stm_state.proofs.KeyTargets.{amid_end}

-- a mapped list at an index, also past the end
pub mapped_at : {X : Type 0} (g : X → X) (xs : List X) (j : ℕ) (d : X) → g d ≡ d → get_or (map g xs) j d ≡ g (get_or xs j d)
mapped_at g [] j d e = sym e
mapped_at g (x ∷ xs) zero d e = refl
mapped_at g (x ∷ xs) (suc j) d e = mapped_at g xs j d e

module _ (block : Block) (s : State) (w i : ℕ) (new : Bool) (f : ViewInvariant block (view_of s)) (moves : task_at s w ≡ Moving i [] new) (w_in : w < length s.tasks) (i_in : i < length s.calls) where
  is_executing : (call_at s i).status ≡ Executing
  is_executing = f.running w i (ap run_by moves)

  -- a task that lowers the validation index has a new key
  lowers_new : (b : Bool) → (lowered_by (Moving i [] b) ≡ None) ⊎ (b ≡ true)
  lowers_new true = inr refl
  lowers_new false = inl refl

  -- call i is not ABORTING
  not_waiting : (call_at s i).status ≢ Aborting
  not_waiting h = let r = is_executing in cc

  -- all keys of call i are moved
  is_moved : IsMoved (call_at s i) (λ key. entry_at s.versions key i) [] new
  is_moved = f.moving w i [] new moves

  -- the call once it is EXECUTED, and the number of its reads
  abbrev done : CallState
  done = record (call_at s i) { status = Executed }

  abbrev left : ℕ
  left = length (recorded_reads (call_at s i).last)

  -- the execution index afterwards
  abbrev lower : ℕ
  lower = least_parked_call i s.execution 0 (set s.calls i done)

  -- the state afterwards, with this task and this validation index
  abbrev after : Task → ℕ → State
  after task validation = with_task w task (record (resume_dependents i (with_call i done s)) { validation = validation })

  -- the execution index is at most each call that becomes READY
  least : (j : ℕ) → is_parked_on i (call_at s j) ≡ true → lower ≤ j
  least j h = elim (cases_eq j i) [
    | inl e ↦
        let aborts : (call_at s j).status ≡ Aborting = parked_aborting i (call_at s j) h in
        absurd (not_waiting (ap (λ x. (call_at s x).status) (sym e) ∙ aborts))
    | inr ne ↦
        let low = lowered_at i s.execution 0 (set s.calls i done) j (ap (is_parked_on i) (get_or-set_other s.calls i j done fresh ne) ∙ h) in
        omega (arith, low)
  ]

  -- the view in which all calls that were parked on call i are READY
  abbrev before : View
  before = woken_view (view_of s) i lower

  -- the invariant holds of this view
  before_facts : ViewInvariant block before
  before_facts = woken_facts block (view_of s) i lower f (lowered_low i s.execution 0 (set s.calls i done)) least

  -- call i is unchanged in this view
  before_call : before.calls i ≡ call_at s i
  before_call = not_parked i (call_at s i) not_waiting

  -- what finishing changes in this view
  finish_frame : (task : Task) (validation : ℕ) → TaskOwes block before (entry_at s.versions) i done task → validation ≤ s.validation → Frame block before (view_of (after task validation)) i w done task
  unfolding resume_dependents
  finish_frame task validation by_task low = record {
    calls = record {
      there = mapped_at (resume_if_parked i) (set s.calls i done) i fresh refl ∙ ap (resume_if_parked i) (get_or-set_same s.calls i done fresh i_in);
      other = λ j ne. mapped_at (resume_if_parked i) (set s.calls i done) j fresh refl ∙ ap (resume_if_parked i) (get_or-set_other s.calls i j done fresh ne);
    };
    tasks = set_at s.tasks w task Idle w_in;
    entries = entries_stay before i done;
    execution = inl (omega arith);
    validation = inl low;
    within = f.named w i (ap named_by moves);
    owner = inl (ap owned_by moves);
    by_task = by_task;
    by_status = (f.unparked i not_waiting, is_moved.below, is_moved.run, λ j h k. none_parked i (call_at s j) h k);
    grows = inr (subst (λ call. Keeps call done) (sym before_call) (keeps_unchecked (call_at s i) done (λ h. let r = is_executing in cc) not_waiting refl));
    own_entries = λ _ key. amid_end (version_of (call_at s i)) (λ k entry. IsUnmovedEntry new entry) (λ k. entry_at s.versions k i) is_moved.amid key;
    recorded = λ run h. before_facts.recorded i run (ap (λ (c : CallState). c.last) before_call ∙ h);
  }

  -- finishing keeps the invariant on two conditions: if call i is below the validation index, the task validates it, and after a
  -- new key the validation index is at most call i
  finish_facts : (task : Task) (validation : ℕ) → TaskOwes block before (entry_at s.versions) i done task → validation ≤ s.validation → (i < validation → task ≡ Validating i (call_at s i).incarnation left false)
      → (new ≡ true → validation ≤ i) → ViewInvariant block (view_of (after task validation))
  unfolding resume_dependents
  finish_facts task validation by_task low own all =
      let m = finish_frame task validation by_task low in
      let u : View = view_of (after task validation) in
      others_kept block before u i w done task m before_facts
      (λ _ l. safe_begun u i w (m.tasks.there ∙ own l ∙ ap (λ (call : CallState). Validating i call.incarnation (length (recorded_reads call.last)) false) (sym m.calls.there)))
      (λ j k b ne h. let r = moves in cc) (elim (lowers_new new) [ inl none ↦ inl (ap lowered_by moves ∙ none) | inr is ↦ let most = all is in inr (omega (arith, most)) ]) (λ j read k. k)

  -- the validation of the run
  abbrev check : Task
  check = Validating i (call_at s i).incarnation left false

  -- finishing keeps the invariant. With a new key, all calls from i on are validated again, and without one only call i is. If
  -- call i is not below the validation index, nothing is validated again
  pub executed_facts : ViewInvariant block (view_of (after_finish_execution w i new s))
  unfolding to_validate resume_dependents
  executed_facts = cond_both (nat_lt i s.validation) _ _ (λ t. ViewInvariant block (view_of t))
      (λ l. let below = lt_says i s.validation l in cond_both new _ _ (λ t. ViewInvariant block (view_of t))
      (λ _. finish_facts Idle i (λ h. cc) (omega (arith, below)) (λ l2. absurd (omega (arith, l2))) (λ _. omega arith))
      (λ none. finish_facts check s.validation (refl, λ h. cc, refl, inl (refl, omega arith)) (omega arith) (λ _. refl) (λ h. cc)))
      (λ l. let above = not_lt_says i s.validation l in finish_facts Idle s.validation (λ h. cc) (omega arith) (λ l2. absurd (omega (arith, l2, above))) (λ _. above))

-- finishing keeps the sizes
executed_sized : (count workers w i : ℕ) (new : Bool) (s : State) → IsStateSized count workers s → IsStateSized count workers (after_finish_execution w i new s)
unfolding to_validate resume_dependents
executed_sized count workers w i new s h =
    let c : CallState = record (call_at s i) { status = Executed } in
    let calls : length (map (resume_if_parked i) (set s.calls i c)) ≡ length s.calls = length-map (set s.calls i c) (resume_if_parked i) ∙ length-set s.calls i c in
    cond_both (nat_lt i s.validation) _ _ (λ t. IsStateSized count workers t)
    (λ _. cond_both new _ _ (λ t. IsStateSized count workers t)
    (λ _. resized count workers s _ calls (length-set s.tasks w _) refl refl h)
    (λ _. resized count workers s _ calls (length-set s.tasks w _) refl refl h))
    (λ _. resized count workers s _ calls (length-set s.tasks w _) refl refl h)

-- finishing keeps the invariant
pub finish_kept : (block : Block) (workers w i : ℕ) (new : Bool) (s : State) → Invariant block workers s → w < workers → task_at s w ≡ Moving i [] new → Invariant block workers (after_finish_execution w i new s)
finish_kept block workers w i new s h w_in moves = record {
  sized = executed_sized block.count workers w i new s h.sized;
  facts = executed_facts block s w i new h.facts moves (let e = h.sized.tasks in omega (arith, e))
      (let within = h.facts.named w i (ap named_by moves) in let e = h.sized.calls in omega (arith, within, e));
}
