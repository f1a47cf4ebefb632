-- A worker's run under way and its task.
use Rattle.std.proofs.Common.{◌≡◌, ◌≢◌, ◌<◌, ℕ, Bool, true, false, List, length, get_or, set, Option, None, Some, refl, sym, ap, subst, inl, inr, ◌∙◌}
use Rattle.std.proofs.lemmas.Bool.{cases_eq}
use Rattle.std.proofs.lemmas.List.{get_or-set_same, get_or-set_other}
use Rattle.rv_ledger.specs.Call.{Invocation}
use Rattle.rv_step.specs.Run.{RunView}
use Rattle.rv_step.specs.declared.ended_run.EndedRun.{EndedRun}
use Rattle.stm_state.specs.declared.state.Task.{Task}
use Rattle.stm_state.specs.declared.state.Task.TheVariants.{Running}
use Rattle.stm_state.specs.State.{State, task_at}
use Rattle.stm_state.specs.Steps.{Record}
use Rattle.stm_state.proofs.Tests.{equal_itself}
use Rattle.stm_core.specs.CoreState.{CoreState, IsOwn, answers_of, next_step_of, is_due, runs, step_of}
use Rattle.stm_core.specs.declared.next_step.NextStep.{NextStep}
use Rattle.stm_core.specs.declared.next_step.NextStep.TheVariants as next_step
use Rattle.stm_core.specs.declared.next_step.StepKind.{StepKind}
use Rattle.stm_core.specs.declared.next_step.StepKind.TheVariants as kinds
use Rattle.stm_core.proofs.TaskChanges.{LeavesTask}
use Rattle.stm_core.specs.Driving.{FitsTask, HasNoAnswers, IsRunOf}

-- whether a worker's step continues a run, which may end
abbrev pub is_run : NextStep → Bool
is_run (next_step.Run i n) = true
is_run step = false

-- if it does not, the worker owes no record
pub no_record : (s : State) (task : Task) (step : NextStep) → step ≡ next_step_of s task → is_run step ≡ false → is_due Record task ≡ false
no_record s (Running j answers None) step doing other = let runs = ap is_run doing in cc
no_record s task step doing other = refl

-- a run fits no task that owes no record
no_run : (calls : List Invocation) (run : RunView) (task : Task) → is_due Record task ≡ false → IsRunOf calls run task → ⊥
no_run calls run (Running i answers None) e h = cc
no_run calls run task e h = h

-- so if the task owed no record there was no run, and the next task is fit if it has no answers
pub next_fits : (calls : List Invocation) (run : Option RunView) (old new : Task) → is_due Record old ≡ false → FitsTask calls run old → HasNoAnswers new → FitsTask calls run new
next_fits calls None old new e h k = k
next_fits calls (Some run) old new e h k = absurd (no_run calls run old e h)

-- a step by its kind leaves no answers
pub rests_after : (kind : StepKind) (task : Task) → LeavesTask (step_of kind) task → HasNoAnswers task
rests_after kinds.Park task h = h.0
rests_after kinds.MoveKey task h = h
rests_after kinds.FinishExecution task h = h.0
rests_after kinds.CheckRead task h = h.0
rests_after kinds.Decide task h = h.0
rests_after kinds.MarkEstimate task h = h.0
rests_after kinds.FinishAbort task h = h.0

-- all workers' runs still fit their tasks if one worker's run and task have changed
pub all_fit : (calls : List Invocation) (runs : List (Option RunView)) (s t : State) (w : ℕ) (run : Option RunView) → w < length runs → ((u : ℕ) → u ≢ w → task_at t u ≡ task_at s u)
    → ((u : ℕ) → FitsTask calls (get_or runs u None) (task_at s u)) → FitsTask calls run (task_at t w) → (u : ℕ) → FitsTask calls (get_or (set runs w run) u None) (task_at t u)
all_fit calls runs s t w run lt others before own u = elim (cases_eq u w) [
  | inl e ↦ subst (λ x. FitsTask calls (get_or (set runs w run) x None) (task_at t x)) (sym e) (subst (λ r. FitsTask calls r (task_at t w)) (sym (get_or-set_same runs w run None lt)) own)
  | inr ne ↦ subst (λ r. FitsTask calls r (task_at t u)) (sym (get_or-set_other runs w u run None ne)) (subst (λ x. FitsTask calls (get_or runs u None) x) (sym (others u ne)) (before u))
]

-- a run that fits the worker's task is its own
module _ (w : ℕ) (b : CoreState) (run : RunView) (ended : EndedRun) (same_call : ended.call ≡ run.call) (same_answers : ended.answers.items ≡ run.answers) where
  own_with : (task : Task) → task_at b.state w ≡ task → is_due Record task ≡ true → IsRunOf b.job.block run task → IsOwn w ended b
  own_with (Running i answers None) at due fits = record {
    call = i;
    runs = ap (λ (t : Task). runs t i) at ∙ equal_itself i;
    same_call = fits.0 ∙ ap Some (sym same_call);
    same_answers = same_answers ∙ fits.1 ∙ sym (ap answers_of at);
  }
  own_with task at due fits = absurd fits

  pub own_run : is_due Record (task_at b.state w) ≡ true → IsRunOf b.job.block run (task_at b.state w) → IsOwn w ended b
  own_run due fits = own_with (task_at b.state w) refl due fits
