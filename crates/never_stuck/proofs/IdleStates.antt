-- If nobody has a task: all calls below the execution index are EXECUTED, and what an asking does.
use Rattle.std.proofs.Common.{◌≡◌, ◌<◌, ◌≤◌, ◌⊎◌, ◌+◌, ◌==◌, nat_lt, ℕ, zero, suc, true, false, List, [], ◌∷◌, length, get_or, None, arith, refl, ap, ◌∙◌, inl, inr}
use Rattle.std.specs.Cmp.Derive.{both_true}
use Rattle.std.specs.List.{list_all}
use Rattle.std.proofs.lemmas.Bool.{cond-true, cond-false}
use Rattle.stm_state.specs.declared.state.Status.{Status}
use Rattle.stm_state.specs.declared.state.Status.TheVariants.{Ready, Executing, Executed, Aborting}
use Rattle.stm_state.specs.declared.state.Task.{Task}
use Rattle.stm_state.specs.declared.state.Task.TheVariants.{Idle, Running, Validating}
use Rattle.stm_state.specs.State.{State, call_at, task_at, with_call, with_task, is_executed, is_idle, is_ready, is_done}
use Rattle.stm_state.specs.Steps.{Block, ask_execution, ask_validation, after_ask, recorded_reads}
use Rattle.stm_state.proofs.Invariant.{view_of, ViewInvariant, Invariant}
use Rattle.stm_state.proofs.Tests.{equal_itself, lt_is, not_lt_is}
use Rattle.stm_state.proofs.Rounds.{not_done}

-- ---- the calls

module _ (block : Block) (s : State) (f : ViewInvariant block (view_of s)) (idle : (x : ℕ) → task_at s x ≡ Idle) where
  -- a call above EXECUTED ones is READY or EXECUTED
  status_above : (i : ℕ) → ((j : ℕ) → j < i → (call_at s j).status ≡ Executed) → (st : Status) → (call_at s i).status ≡ st → (st ≡ Ready) ⊎ (st ≡ Executed)
  status_above i lower Ready h = inl refl
  status_above i lower Executing h = let run = f.executing i h in let runs = run.1 in let none = idle run.0 in cc
  status_above i lower Executed h = inr refl
  status_above i lower Aborting h = elim (f.aborting i h) [
    | inl wait ↦ absurd (wait.not_done (lower wait.on wait.lower))
    | inr marks ↦ let some = marks.1 in let none = idle marks.0 in cc
  ]

  below_by : (m i : ℕ) → i < m → i < s.execution → (call_at s i).status ≡ Executed
  below_by zero i less low = absurd (omega (arith, less))
  below_by (suc m) i less low = elim (status_above i (λ j l. below_by m j (omega (arith, less, l)) (omega (arith, low, l))) (call_at s i).status refl) [
    | inl ready ↦ let above = f.ready i ready in absurd (omega (arith, low, above))
    | inr done ↦ done
  ]

  -- the calls below the execution index are EXECUTED
  pub below_executed : (i : ℕ) → i < s.execution → (call_at s i).status ≡ Executed
  below_executed i low = below_by (suc i) i (omega arith) low

  -- the next call to run is READY, or EXECUTED already
  pub next_status : ((call_at s s.execution).status ≡ Ready) ⊎ ((call_at s s.execution).status ≡ Executed)
  next_status = status_above s.execution below_executed (call_at s s.execution).status refl

-- ---- an asking

-- if nobody has a task all are idle
all_idle : (tasks : List Task) → ((x : ℕ) → get_or tasks x Idle ≡ Idle) → list_all is_idle tasks ≡ true
all_idle [] idle = refl
all_idle (task ∷ tasks) idle = both_true (ap is_idle (idle 0)) (all_idle tasks (λ x. idle (suc x)))

module _ (block : Block) (workers : ℕ) (s : State) (inv : Invariant block workers s) where
  -- workers are done if both indices are past the last call and nobody has a task
  pub done_is : s.execution ≡ block.count → s.validation ≡ block.count → ((x : ℕ) → task_at s x ≡ Idle) → is_done s ≡ true
  unfolding is_done
  done_is runs checks idle =
      let size = inv.sized.calls in
      let runs_to : s.execution ≡ length s.calls = omega (arith, runs, size) in
      let checks_to : s.validation ≡ length s.calls = omega (arith, checks, size) in
      both_true (both_true (ap (λ x. x == length s.calls) runs_to ∙ equal_itself (length s.calls)) (ap (λ x. x == length s.calls) checks_to ∙ equal_itself (length s.calls))) (all_idle s.tasks idle)

  module _ (w : ℕ) where
    -- an asking that gets a call to validate
    pub asks_validation : s.validation < s.execution → (call_at s s.validation).status ≡ Executed
        → after_ask w s ≡ with_task w (Validating s.validation (call_at s s.validation).incarnation (length (recorded_reads (call_at s s.validation).last)) false) (record s { validation = s.validation + 1 })
    unfolding ask_validation
    asks_validation behind done =
        cond-false (is_done s) _ _ (not_done block workers s inv (λ o. let e = o.execution in let v = o.validation in omega (arith, behind, e, v)))
        ∙ cond-true (nat_lt s.validation s.execution) _ _ (lt_is s.validation s.execution behind)
        ∙ cond-true (is_executed (call_at s s.validation).status) _ _ (ap is_executed done)

    module _ (level : s.execution ≤ s.validation) (within : s.execution < block.count) where
      -- an asking that turns to the execution index
      asks_execution : after_ask w s ≡ ask_execution w s
      asks_execution =
          let size = inv.sized.calls in
          cond-false (is_done s) _ _ (not_done block workers s inv (λ o. let e = o.execution in omega (arith, within, e)))
          ∙ cond-false (nat_lt s.validation s.execution) _ _ (not_lt_is s.validation s.execution level)
          ∙ cond-true (nat_lt s.execution (length s.calls)) _ _ (lt_is s.execution (length s.calls) (omega (arith, within, size)))

      run_begins : (call_at s s.execution).status ≡ Ready → ask_execution w s ≡ with_task w (Running s.execution [] None) (with_call s.execution (record (call_at s s.execution) { status = Executing }) (record s { execution = s.execution + 1 }))
      unfolding ask_execution
      run_begins ready = cond-true (is_ready (call_at s s.execution).status) _ _ (ap is_ready ready)

      run_passed : (call_at s s.execution).status ≡ Executed → ask_execution w s ≡ record s { execution = s.execution + 1 }
      unfolding ask_execution
      run_passed done = cond-false (is_ready (call_at s s.execution).status) _ _ (ap is_ready done)

      -- an asking that gets a call to run
      pub asks_run : (call_at s s.execution).status ≡ Ready → after_ask w s ≡ with_task w (Running s.execution [] None) (with_call s.execution (record (call_at s s.execution) { status = Executing }) (record s { execution = s.execution + 1 }))
      asks_run ready = asks_execution ∙ run_begins ready

      -- an asking that passes a call which is EXECUTED already
      pub asks_past : (call_at s s.execution).status ≡ Executed → after_ask w s ≡ record s { execution = s.execution + 1 }
      asks_past done = asks_execution ∙ run_passed done
