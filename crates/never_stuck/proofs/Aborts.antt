-- An abort that only one worker continues: the keys of its call are marked, and the call is readied or run again.
use Rattle.std.proofs.Common.{◌≡◌, ◌<◌, ◌≤◌, ◌+◌, min, nat_lt, ℕ, true, false, List, [], ◌∷◌, length, None, Some, Ok, arith, refl, ap, ◌∙◌, inl, inr}
use Rattle.std.proofs.lemmas.Bool.{cases_Bool, cond-true, cond-false}
use Rattle.std.proofs.lemmas.List.{get_or-set_same, get_or-set_other}
use Rattle.mvmap.specs.Versions.{Estimate}
use Rattle.stm_state.specs.declared.state.Status.TheVariants.{Executing}
use Rattle.stm_state.specs.declared.state.CallState.{CallState}
use Rattle.stm_state.specs.declared.state.Task.{Task}
use Rattle.stm_state.specs.declared.state.Task.TheVariants.{Idle, Running, Marking}
use Rattle.stm_state.specs.State.{State, fresh, call_at, task_at, with_call, with_task}
use Rattle.stm_state.specs.Steps.{counted, one_step, next_incarnation, after_mark_estimate, after_finish_abort}
use Rattle.stm_state.proofs.Tests.{not_lt_says}
use Rattle.never_stuck.proofs.UnstuckGoals.{Setting}
use Rattle.never_stuck.proofs.OwedLists.{Comes, comes_here, comes_so}
use Rattle.never_stuck.proofs.Kept.{OnlyCall, Kept, call_kept, kept_on, new_entry}
use Rattle.never_stuck.proofs.OwedSteps.{IsSound, worker_there, named_there, due_at, steps_on}

-- call i is at its next incarnation. Its run begins again, or it is READY at or above the execution index
pub data AbortOutcome (w i : ℕ) (s t : State) : Type 0 where
  runs_again : Kept w i s t → task_at t w ≡ Running i [] None → (call_at t i).incarnation ≡ (call_at s i).incarnation + 1 → AbortOutcome w i s t
  readies : Kept w i s t → task_at t w ≡ Idle → (call_at t i).incarnation ≡ (call_at s i).incarnation + 1 → s.execution ≤ i → AbortOutcome w i s t

-- ---- the end of the abort

module _ (w i : ℕ) (s : State) where
  -- the state with call i at its next incarnation
  abbrev resumed : Task → CallState → State
  resumed task call = with_task w task (with_call i call (record s { validation = min s.validation (i + 1) }))

  abbrev again : CallState
  again = record (next_incarnation (call_at s i)) { status = Executing }

  aborted_below : nat_lt i s.execution ≡ true → after_finish_abort w i s ≡ resumed (Running i [] None) again
  unfolding after_finish_abort
  aborted_below low = cond-true (nat_lt i s.execution) _ _ low

  aborted_above : nat_lt i s.execution ≡ false → after_finish_abort w i s ≡ resumed Idle (next_incarnation (call_at s i))
  unfolding after_finish_abort
  aborted_above high = cond-false (nat_lt i s.execution) _ _ high

  resumed_kept : (task : Task) (call : CallState) → Kept w i s (counted one_step w (resumed task call))
  resumed_kept task call = record {
    calls = λ j ne. inl (get_or-set_other s.calls i j call fresh ne);
    entries = λ key j ne. refl;
    tasks = λ x ne. get_or-set_other s.tasks w x task Idle ne;
    execution = inl refl;
    not_raised = omega arith;
    not_below = omega arith;
  }

-- the same from the state before a key is marked
after_mark : (w i : ℕ) (s u t : State) → OnlyCall w i s u → call_at u i ≡ call_at s i → AbortOutcome w i u t → AbortOutcome w i s t
after_mark w i s u t only same (runs_again kept at up) = runs_again (kept_on w i s u t (call_kept w i s u only) kept) at (up ∙ ap (λ (c : CallState). c.incarnation + 1) same)
after_mark w i s u t only same (readies kept at up above) =
    let index = only.execution in readies (kept_on w i s u t (call_kept w i s u only) kept) at (up ∙ ap (λ (c : CallState). c.incarnation + 1) same) (omega (arith, above, index))

module _ (setting : Setting) (w i : ℕ) (w_in : w < setting.workers) where
  -- no key is left
  finishes : (s : State) → IsSound setting s → task_at s w ≡ Marking i [] → Comes setting (AbortOutcome w i s) 1 0 s
  finishes s h at = elim (cases_Bool (nat_lt i s.execution)) [
    | inl low ↦
        steps_on setting w w_in s h 0 (counted one_step w (resumed w i s (Running i [] None) (again w i s)))
        (due_at setting w s (Marking i []) at ∙ ap (λ u. Some (Ok (counted one_step w u))) (aborted_below w i s low)) refl (omega arith)
        (λ _. comes_here (runs_again (resumed_kept w i s (Running i [] None) (again w i s)) (get_or-set_same s.tasks w (Running i [] None) Idle (worker_there setting s h w w_in))
        (ap (λ (c : CallState). c.incarnation) (get_or-set_same s.calls i (again w i s) fresh (named_there setting s h w w_in (Marking i []) i at refl)))))
    | inr high ↦
        steps_on setting w w_in s h 0 (counted one_step w (resumed w i s Idle (next_incarnation (call_at s i))))
        (due_at setting w s (Marking i []) at ∙ ap (λ u. Some (Ok (counted one_step w u))) (aborted_above w i s high)) refl (omega arith)
        (λ _. comes_here (readies (resumed_kept w i s Idle (next_incarnation (call_at s i))) (get_or-set_same s.tasks w Idle Idle (worker_there setting s h w w_in))
        (ap (λ (c : CallState). c.incarnation) (get_or-set_same s.calls i (next_incarnation (call_at s i)) fresh (named_there setting s h w w_in (Marking i []) i at refl))) (not_lt_says i s.execution high)))
  ]

  -- an abort ends within a step for each key that is left and one more
  pub abort_ends : (keys : List (List ℕ)) (s : State) → IsSound setting s → task_at s w ≡ Marking i keys → Comes setting (AbortOutcome w i s) (length keys + 1) 0 s
  abort_ends [] s h at = finishes s h at
  abort_ends (key ∷ keys) s h at =
      let u : State = counted one_step w (after_mark_estimate w i key keys s) in
      steps_on setting w w_in s h (length keys + 1) u (due_at setting w s (Marking i (key ∷ keys)) at) refl (omega arith)
      (λ k. comes_so (λ t. after_mark w i s u t (new_entry w i one_step (Marking i keys) key (Some Estimate) s) refl)
      (abort_ends keys u k (get_or-set_same s.tasks w (Marking i keys) Idle (worker_there setting s h w w_in))))
