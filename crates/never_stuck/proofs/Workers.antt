-- All workers end their tasks, one after another.
use Rattle.std.proofs.Common.{◌≡◌, ◌<◌, ◌≤◌, ◌+◌, ◌*◌, ℕ, zero, suc, true, arith, ap, subst, ◌∙◌, inl, inr}
use Rattle.std.proofs.lemmas.Bool.{cases_eq}
use Rattle.stm_state.specs.declared.state.Task.TheVariants.{Idle}
use Rattle.stm_state.specs.Limits.{incarnation_limit}
use Rattle.stm_state.specs.State.{State, task_at}
use Rattle.never_stuck.proofs.UnstuckGoals.{Setting}
use Rattle.never_stuck.proofs.OwedLists.{Comes, comes_here, comes_so}
use Rattle.never_stuck.proofs.OwedSteps.{IsSound, comes_then}
use Rattle.never_stuck.proofs.Tasks.{IsBelow, Settles, worker_settles}

-- nobody has a task, and incarnations are below a number
pub record IsSettled (c : ℕ) (s : State) : Type 0 where
  pub idle : (x : ℕ) → task_at s x ≡ Idle
  pub low : IsBelow c s

-- no worker from k on has a task
abbrev IsIdleFrom : ℕ → State → Type 0
IsIdleFrom k s = (x : ℕ) → k ≤ x → task_at s x ≡ Idle

idle_after : (k : ℕ) (s t : State) → Settles k s t → IsIdleFrom (suc k) s → IsIdleFrom k t
idle_after k s t h idle x from = elim (cases_eq x k) [
  | inl e ↦ ap (task_at t) e ∙ h.idle
  | inr ne ↦ h.tasks x ne ∙ idle x (omega (arith, from, ne))
]

module _ (setting : Setting) where
  -- the first k workers end their tasks, the last of them first
  pub workers_settle : (k c : ℕ) (s : State) → k ≤ setting.workers → IsIdleFrom k s → IsBelow c s → (setting.strict ≡ true → c + 2 * k < incarnation_limit) → IsSound setting s → Comes setting (IsSettled (c + 2 * k)) (k * (4 * setting.reads + 1300)) (2 * k) s
  workers_settle zero c s within idle low limit h = comes_here (record { idle = λ x. idle x (omega arith); low = let same : c ≡ c + 2 * 0 = omega arith in subst (λ n. IsBelow n s) same low })
  workers_settle (suc k) c s within idle low limit h =
      let same : c + 2 + 2 * k ≡ c + 2 * suc k = omega arith in
      comes_then setting (k * (4 * setting.reads + 1300)) (2 * k) h
      (worker_settles setting k (omega (arith, within)) s (λ i is. let less = limit is in let most = (low i).0 in omega (arith, less, most)) h)
      (λ t sound x. comes_so (λ u. subst (λ n. IsSettled n u) same) (workers_settle k (c + 2) t (omega (arith, within)) (idle_after k s t x idle) (x.low c low) (λ is. let less = limit is in omega (arith, less)) sound))
      (omega arith) (omega arith)
