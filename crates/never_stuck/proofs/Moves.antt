-- A record that only one worker continues: the keys of its call are moved, and the call is EXECUTED.
use Rattle.std.proofs.Common.{◌≡◌, ◌≢◌, ◌<◌, ◌≤◌, ◌⊎◌, ◌+◌, min, nat_lt, ℕ, Bool, true, false, List, [], ◌∷◌, length, map, get_or, set, Some, Ok, arith, refl, sym, ap, subst, ◌∙◌, inl, inr, true≢false}
use Rattle.std.specs.List.{list_all}
use Rattle.std.proofs.lemmas.Bool.{cases_Bool, cond-true, cond-false}
use Rattle.std.proofs.lemmas.List.{get_or-set_same, get_or-set_other}
use Rattle.mvmap.specs.Reading.{stands}
use Rattle.stm_state.specs.declared.state.Status.TheVariants.{Executed, Aborting}
use Rattle.stm_state.specs.declared.state.CallState.{CallState}
use Rattle.stm_state.specs.declared.state.Task.{Task}
use Rattle.stm_state.specs.declared.state.Task.TheVariants.{Idle, Moving, Validating}
use Rattle.stm_state.specs.State.{State, fresh, call_at, task_at, with_task}
use Rattle.stm_state.specs.Steps.{counted, one_step, recorded_reads, is_parked_on, resume_if_parked, least_parked_call, resume_dependents, to_validate, after_move_key, after_finish_execution, version_of}
use Rattle.stm_state.proofs.Resumptions.{readied_cases, parked_aborting}
use Rattle.stm_state.proofs.Finishes.{mapped_at}
use Rattle.stm_state.proofs.Tests.{lt_says}
use Rattle.never_stuck.proofs.UnstuckGoals.{Setting}
use Rattle.never_stuck.proofs.OwedLists.{Comes, comes_here, comes_so}
use Rattle.never_stuck.proofs.Kept.{OnlyCall, Kept, IsAtMostLowered, Stays, IsLoweredTo, call_kept, kept_on, new_entry, lowered_is}
use Rattle.never_stuck.proofs.RunReads.{AllStand, stand_still}
use Rattle.never_stuck.proofs.OwedSteps.{IsSound, worker_there, named_there, due_at, steps_on}

-- call i is EXECUTED at its incarnation, and its reads stand if they did
pub record IsExecutedFrom (w i : ℕ) (s t : State) : Type 0 where
  pub kept : Kept w i s t
  pub status : (call_at t i).status ≡ Executed
  pub incarnation : (call_at t i).incarnation ≡ (call_at s i).incarnation
  pub stand : AllStand s.versions i (recorded_reads (call_at s i).last) → AllStand t.versions i (recorded_reads (call_at t i).last)

-- the worker's task is over, or it validates the call
pub data MoveOutcome (w i : ℕ) (s t : State) : Type 0 where
  rests : IsExecutedFrom w i s t → task_at t w ≡ Idle → MoveOutcome w i s t
  validates : (n : ℕ) → IsExecutedFrom w i s t → task_at t w ≡ Validating i n (length (recorded_reads (call_at t i).last)) false → MoveOutcome w i s t

-- the same from the state before a key is moved
executed_after : (w i : ℕ) (s u t : State) → OnlyCall w i s u → call_at u i ≡ call_at s i → IsExecutedFrom w i u t → IsExecutedFrom w i s t
executed_after w i s u t only same h = record {
  kept = kept_on w i s u t (call_kept w i s u only) h.kept;
  status = h.status;
  incarnation = h.incarnation ∙ ap (λ (c : CallState). c.incarnation) same;
  stand = λ stood. h.stand (ap (λ (c : CallState). list_all (stands u.versions i) (recorded_reads c.last)) same ∙ stand_still s.versions u.versions i only.entries (recorded_reads (call_at s i).last) stood);
}

after_move : (w i : ℕ) (s u t : State) → OnlyCall w i s u → call_at u i ≡ call_at s i → MoveOutcome w i u t → MoveOutcome w i s t
after_move w i s u t only same (rests h at) = rests (executed_after w i s u t only same h) at
after_move w i s u t only same (validates n h at) = validates n (executed_after w i s u t only same h) at

-- ---- the end of the execution

module _ (w i : ℕ) (new : Bool) (s : State) (i_in : i < length s.calls) where
  -- the call that is EXECUTED
  abbrev done : CallState
  done = record (call_at s i) { status = Executed }

  -- the execution index afterwards
  abbrev lower : ℕ
  lower = least_parked_call i s.execution 0 (set s.calls i done)

  -- the state afterwards, with a task and a validation index
  abbrev finished : Task → ℕ → State
  finished task validation = with_task w task (record s { calls = map (resume_if_parked i) (set s.calls i done); execution = lower; validation = validation })

  -- the validation of the run
  abbrev check : Task
  check = Validating i (call_at s i).incarnation (length (recorded_reads (call_at s i).last)) false

  -- which state it is
  record Finish : Type 0 where
    task : Task
    validation : ℕ
    is : after_finish_execution w i new s ≡ finished task validation
    kind : (task ≡ Idle) ⊎ (task ≡ check)
    not_raised : validation ≤ s.validation
    not_below : min s.validation i ≤ validation

  below_new : nat_lt i s.validation ≡ true → new ≡ true → after_finish_execution w i new s ≡ finished Idle i
  unfolding to_validate resume_dependents
  below_new low is = cond-true (nat_lt i s.validation) _ _ low ∙ cond-true new _ _ is

  below_old : nat_lt i s.validation ≡ true → new ≡ false → after_finish_execution w i new s ≡ finished check s.validation
  unfolding to_validate resume_dependents
  below_old low is = cond-true (nat_lt i s.validation) _ _ low ∙ cond-false new _ _ is

  above : nat_lt i s.validation ≡ false → after_finish_execution w i new s ≡ finished Idle s.validation
  unfolding to_validate resume_dependents
  above high = cond-false (nat_lt i s.validation) _ _ high

  finish : Finish
  finish = elim (cases_Bool (nat_lt i s.validation)) [
    | inl low ↦ let less = lt_says i s.validation low in elim (cases_Bool new) [
      | inl is ↦ record { task = Idle; validation = i; is = below_new low is; kind = inl refl; not_raised = omega (arith, less); not_below = omega arith }
      | inr is ↦ record { task = check; validation = s.validation; is = below_old low is; kind = inr refl; not_raised = omega arith; not_below = omega arith }
    ]
    | inr high ↦ record { task = Idle; validation = s.validation; is = above high; kind = inl refl; not_raised = omega arith; not_below = omega arith }
  ]

  -- the calls afterwards
  own_call : (task : Task) (validation : ℕ) → call_at (finished task validation) i ≡ done
  own_call task validation = mapped_at (resume_if_parked i) (set s.calls i done) i fresh refl ∙ ap (resume_if_parked i) (get_or-set_same s.calls i done fresh i_in)

  other_call : (task : Task) (validation j : ℕ) → j ≢ i → Stays (call_at s j) (call_at (finished task validation) j)
  other_call task validation j ne =
      let now = mapped_at (resume_if_parked i) (set s.calls i done) j fresh refl ∙ ap (resume_if_parked i) (get_or-set_other s.calls i j done fresh ne) in
      elim (readied_cases i (call_at s j)) [ inl same ↦ inl (now ∙ same) | inr readied ↦ inr (parked_aborting i (call_at s j) readied.0, now ∙ readied.1) ]

  -- a call that is parked on call i is another one, and was ABORTING
  parked_other : (k : ℕ) → is_parked_on i (get_or (set s.calls i done) k fresh) ≡ true → (k ≢ i) × ((call_at s k).status ≡ Aborting)
  parked_other k on =
      let ne : k ≢ i = λ e. true≢false (sym on ∙ ap (λ x. is_parked_on i (get_or (set s.calls i done) x fresh)) e ∙ ap (is_parked_on i) (get_or-set_same s.calls i done fresh i_in)) in
      (ne, parked_aborting i (call_at s k) (ap (is_parked_on i) (sym (get_or-set_other s.calls i k done fresh ne)) ∙ on))

  lowered_by : (y : ℕ) → IsLoweredTo i s.execution 0 (set s.calls i done) y → IsAtMostLowered i s y
  lowered_by y (inl same) = inl same
  lowered_by y (inr lowers) =
      let at = lowers.1.1 in
      let is : lowers.1.0 ≡ y = omega (arith, at) in
      inr (subst (λ k. (y < s.execution) × (k ≢ i) × ((call_at s k).status ≡ Aborting)) is (let other = parked_other lowers.1.0 lowers.1.2 in (lowers.0, other.0, other.1)))

  finished_kept : (f : Finish) → IsExecutedFrom w i s (counted one_step w (finished f.task f.validation))
  finished_kept f = record {
    kept = record {
      calls = other_call f.task f.validation;
      entries = λ key j ne. refl;
      tasks = λ x ne. get_or-set_other s.tasks w x f.task Idle ne;
      execution = lowered_by lower (lowered_is i s.execution 0 (set s.calls i done));
      not_raised = f.not_raised;
      not_below = f.not_below;
    };
    status = ap (λ (c : CallState). c.status) (own_call f.task f.validation);
    incarnation = ap (λ (c : CallState). c.incarnation) (own_call f.task f.validation);
    stand = λ stood. ap (λ (c : CallState). list_all (stands s.versions i) (recorded_reads c.last)) (own_call f.task f.validation) ∙ stood;
  }

  outcome : (f : Finish) → w < length s.tasks → MoveOutcome w i s (counted one_step w (finished f.task f.validation))
  outcome f w_in = elim f.kind [
    | inl idle ↦ rests (finished_kept f) (get_or-set_same s.tasks w f.task Idle w_in ∙ idle)
    | inr check_is ↦ validates (call_at s i).incarnation (finished_kept f)
        (get_or-set_same s.tasks w f.task Idle w_in ∙ check_is ∙ ap (λ (c : CallState). Validating i (call_at s i).incarnation (length (recorded_reads c.last)) false) (sym (own_call f.task f.validation)))
  ]

module _ (setting : Setting) (w i : ℕ) (new : Bool) (w_in : w < setting.workers) where
  -- no key is left
  finishes : (s : State) → IsSound setting s → task_at s w ≡ Moving i [] new → Comes setting (MoveOutcome w i s) 1 0 s
  finishes s h at =
      let there = named_there setting s h w w_in (Moving i [] new) i at refl in
      let f = finish w i new s there in
      steps_on setting w w_in s h 0 (counted one_step w (finished w i new s there f.task f.validation))
      (due_at setting w s (Moving i [] new) at ∙ ap (λ u. Some (Ok (counted one_step w u))) f.is) refl (omega arith)
      (λ _. comes_here (outcome w i new s there f (worker_there setting s h w w_in)))

  -- a record ends within a step for each key that is left and one more
  pub move_ends : (keys : List (List ℕ)) (s : State) → IsSound setting s → task_at s w ≡ Moving i keys new → Comes setting (MoveOutcome w i s) (length keys + 1) 0 s
  move_ends [] s h at = finishes s h at
  move_ends (key ∷ keys) s h at =
      let u : State = counted one_step w (after_move_key w i key keys new s) in
      steps_on setting w w_in s h (length keys + 1) u (due_at setting w s (Moving i (key ∷ keys) new) at) refl (omega arith)
      (λ k. comes_so (λ t. after_move w i s u t (new_entry w i one_step (Moving i keys new) key (version_of (call_at s i) key) s) refl)
      (move_ends keys u k (get_or-set_same s.tasks w (Moving i keys new) Idle (worker_there setting s h w w_in))))
