-- If nobody has a task, worker 0 alone has the next call run, or validated and, if need be, run again.
use Rattle.std.proofs.Common.{◌≡◌, ◌≢◌, ◌<◌, ◌≤◌, ◌+◌, ◌*◌, ℕ, true, false, [], length, None, Some, Ok, arith, refl, sym, ap, subst, ◌∙◌, inl, inr}
use Rattle.std.proofs.lemmas.Bool.{cases_eq, cases_lt}
use Rattle.std.proofs.lemmas.List.{get_or-set_same, get_or-set_other}
use Rattle.stm_state.specs.declared.state.Status.TheVariants.{Ready, Executing, Executed}
use Rattle.stm_state.specs.declared.state.CallState.{CallState}
use Rattle.stm_state.specs.declared.state.Task.{Task}
use Rattle.stm_state.specs.declared.state.Task.TheVariants.{Idle, Running, Validating}
use Rattle.stm_state.specs.Limits.{incarnation_limit}
use Rattle.stm_state.specs.State.{State, fresh, call_at, task_at, with_call, with_task}
use Rattle.stm_state.specs.Steps.{counted, one_asking, recorded_reads}
use Rattle.never_stuck.proofs.UnstuckGoals.{Setting, block}
use Rattle.never_stuck.proofs.OwedLists.{Comes, comes_here, comes_so}
use Rattle.never_stuck.proofs.Kept.{OnlyTask, OnlyCall, Kept, Stays, task_kept, call_kept, kept_on, stays_on}
use Rattle.never_stuck.proofs.RunReads.{AllStand}
use Rattle.never_stuck.proofs.OwedSteps.{IsSound, worker_there, due_at, steps_on, comes_then}
use Rattle.never_stuck.proofs.Validations.{ValidationOutcome, passes, takes_back, validation_ends}
use Rattle.never_stuck.proofs.Aborts.{AbortOutcome, runs_again, readies, abort_ends}
use Rattle.never_stuck.proofs.Tasks.{FreshOutcome, executes, parks_call, fresh_ends, same_call}
use Rattle.never_stuck.proofs.IdleStates.{below_executed, asks_validation, asks_run}

-- nobody has a task; the other calls stay, or were ABORTING and are readied; call i's incarnation grows by at most `grown`; the
-- execution index is `execution`; and the validation index is past call i
pub record Attended (i grown execution : ℕ) (s t : State) : Type 0 where
  pub idle : (x : ℕ) → task_at t x ≡ Idle
  pub others : (j : ℕ) → j ≢ i → Stays (call_at s j) (call_at t j)
  pub risen : (call_at t i).incarnation ≤ (call_at s i).incarnation + grown
  pub runs_from : t.execution ≡ execution
  pub checks_from : i < t.validation

-- all workers except worker 0 have no task
abbrev OthersIdle : State → Type 0
OthersIdle s = (x : ℕ) → x ≢ 0 → task_at s x ≡ Idle

all_idle : (i : ℕ) (s t : State) → Kept 0 i s t → OthersIdle s → task_at t 0 ≡ Idle → (x : ℕ) → task_at t x ≡ Idle
all_idle i s t kept others at x = elim (cases_eq x 0) [ inl e ↦ ap (task_at t) e ∙ at | inr ne ↦ kept.tasks x ne ∙ others x ne ]

-- all calls below the execution index except call i are EXECUTED
abbrev IsClearBut : ℕ → State → Type 0
IsClearBut i s = (j : ℕ) → j < s.execution → j ≢ i → (call_at s j).status ≡ Executed

executed_stays : (before after : CallState) → Stays before after → before.status ≡ Executed → after.status ≡ Executed
executed_stays before after (inl same) done = ap (λ (c : CallState). c.status) same ∙ done
executed_stays before after (inr readied) done = let other = readied.0 in cc

-- if so, a task of call i leaves the execution index as it is
index_stays : (i : ℕ) (s t : State) → Kept 0 i s t → IsClearBut i s → t.execution ≡ s.execution
index_stays i s t kept clear = elim kept.execution [ inl same ↦ same | inr lower ↦ let done = clear t.execution lower.0 lower.1 in let aborts = lower.2 in cc ]

clear_still : (i : ℕ) (s t : State) → Kept 0 i s t → IsClearBut i s → IsClearBut i t
clear_still i s t kept clear j low ne =
    let same = index_stays i s t kept clear in executed_stays (call_at s j) (call_at t j) (kept.calls j ne) (clear j (omega (arith, low, same)) ne)

-- the same from a state before call i is attended to
attended_after : (i grown execution : ℕ) (s t u : State) → ((j : ℕ) → j ≢ i → Stays (call_at s j) (call_at t j)) → (call_at t i).incarnation ≤ (call_at s i).incarnation + grown → t.execution ≡ execution → Attended i 0 t.execution t u → Attended i grown execution s u
attended_after i grown execution s t u others risen runs h = record {
  idle = h.idle;
  others = λ j ne. stays_on (call_at s j) (call_at t j) (call_at u j) (others j ne) (h.others j ne);
  risen = let more = h.risen in omega (arith, risen, more);
  runs_from = h.runs_from ∙ runs;
  checks_from = h.checks_from;
}

module _ (setting : Setting) (w_in : 0 < setting.workers) where
  -- ---- the next call to validate

  module _ (s : State) (h : IsSound setting s) (idle : (x : ℕ) → task_at s x ≡ Idle) (behind : s.validation < s.execution) where
    -- it is EXECUTED
    validated_done : (call_at s s.validation).status ≡ Executed
    validated_done = below_executed (block setting) s h.inv.facts idle s.validation behind

    -- worker 0 gets it to validate
    abbrev check : Task
    check = Validating s.validation (call_at s s.validation).incarnation (length (recorded_reads (call_at s s.validation).last)) false

    abbrev to_check : State
    to_check = counted one_asking 0 (with_task 0 check (record s { validation = s.validation + 1 }))

    others_idle : OthersIdle to_check
    others_idle x ne = get_or-set_other s.tasks 0 x check Idle ne ∙ idle x

    to_check_clear : IsClearBut s.validation to_check
    to_check_clear j low ne = below_executed (block setting) s h.inv.facts idle j low

    validates_next : {P : State → Type 0} {n r : ℕ} (m : ℕ) → setting.reads + 2 + m < n → ((t : State) → IsSound setting t → ValidationOutcome 0 s.validation false to_check t → Comes setting P m r t) → Comes setting P n r s
    validates_next {r = r} m fewer rest =
        steps_on setting 0 w_in s h (setting.reads + 2 + m) to_check
        (due_at setting 0 s Idle (idle 0) ∙ ap (λ u. Some (Ok (counted one_asking 0 u))) (asks_validation (block setting) setting.workers s h.inv 0 behind validated_done)) refl fewer
        (λ k. comes_then setting m r k
        (validation_ends setting 0 s.validation (call_at s s.validation).incarnation w_in (length (recorded_reads (call_at s s.validation).last)) false to_check k (get_or-set_same s.tasks 0 check Idle (worker_there setting s h 0 w_in)))
        rest (omega arith) (omega arith))

    -- its validation passes
    passed : (grown : ℕ) (t : State) → OnlyTask 0 to_check t → task_at t 0 ≡ Idle → Attended s.validation grown s.execution s t
    passed grown t only at = record {
      idle = all_idle s.validation to_check t (task_kept 0 s.validation to_check t only) others_idle at;
      others = λ j ne. inl (same_call 0 j to_check t only);
      risen = let same = ap (λ (c : CallState). c.incarnation) (same_call 0 s.validation to_check t only) in omega (arith, same);
      runs_from = only.execution;
      checks_from = let on = only.validation in omega (arith, on);
    }

    -- it passes if the call's reads stand
    stands_pass : AllStand s.versions s.validation (recorded_reads (call_at s s.validation).last) → Comes setting (Attended s.validation 0 s.execution s) (setting.reads + 3) 0 s
    stands_pass stood = validates_next 0 (omega arith) (λ t k outcome. passes_by t outcome)
      where
        passes_by : (t : State) → ValidationOutcome 0 s.validation false to_check t → Comes setting (Attended s.validation 0 s.execution s) 0 0 t
        passes_by t (passes only at) = comes_here (passed 0 t only at)
        passes_by t (takes_back keys only at few taken fresh_fails) = absurd (fresh_fails refl stood)

  -- ---- a run that begins

  module _ (i : ℕ) (s : State) (h : IsSound setting s) (at : task_at s 0 ≡ Running i [] None) (others : OthersIdle s) (clear : IsClearBut i s) (runs : i < s.execution) (checks : i ≤ s.validation) (low : setting.strict ≡ true → (call_at s i).incarnation < incarnation_limit) where
    after_run : (t : State) → IsSound setting t → FreshOutcome 0 i s t → Comes setting (Attended i 0 s.execution s) (setting.reads + 3) 0 t
    after_run t k (executes kept now same done stood) =
        let rest = all_idle i s t kept others now in
        let index = index_stays i s t kept clear in
        let up : (call_at t i).incarnation ≤ (call_at s i).incarnation + 0 = omega (arith, same) in
        elim (cases_lt i t.validation) [
          | inl past ↦ comes_here (record { idle = rest; others = kept.calls; risen = up; runs_from = index; checks_from = past })
          | inr not_past ↦
              let most = kept.not_below in
              let level : t.validation ≡ i = omega (arith, most, checks, not_past) in
              comes_so (λ u x. attended_after i 0 s.execution s t u kept.calls up index (subst (λ y. Attended y 0 t.execution t u) level x))
              (stands_pass t k rest (omega (arith, level, index, runs)) (subst (λ y. AllStand t.versions y (recorded_reads (call_at t y).last)) (sym level) stood))
        ]
    after_run t k (parks_call b kept now same less ne) = absurd (ne (clear b (omega (arith, less, runs)) (λ e. omega (arith, less, e))))

    -- it meets no estimate, and its call is EXECUTED and validated
    run_attends : Comes setting (Attended i 0 s.execution s) (3 * setting.reads + 520) 1 s
    run_attends = comes_then setting (setting.reads + 3) 0 h (fresh_ends setting 0 i w_in [] s h at refl low) after_run (omega arith) (omega arith)

  -- ---- the next call to run

  module _ (s : State) (h : IsSound setting s) (idle : (x : ℕ) → task_at s x ≡ Idle) (level : s.execution ≤ s.validation) (within : s.execution < (block setting).count) (ready : (call_at s s.execution).status ≡ Ready) (low : setting.strict ≡ true → (call_at s s.execution).incarnation < incarnation_limit) where
    -- worker 0 gets it to run
    abbrev begun : CallState
    begun = record (call_at s s.execution) { status = Executing }

    abbrev to_run : State
    to_run = counted one_asking 0 (with_task 0 (Running s.execution [] None) (with_call s.execution begun (record s { execution = s.execution + 1 })))

    other_call : (j : ℕ) → j ≢ s.execution → call_at to_run j ≡ call_at s j
    other_call j ne = get_or-set_other s.calls s.execution j begun fresh ne

    same_incarnation : (call_at to_run s.execution).incarnation ≡ (call_at s s.execution).incarnation
    same_incarnation = ap (λ (c : CallState). c.incarnation) (get_or-set_same s.calls s.execution begun fresh (let size = h.inv.sized.calls in omega (arith, within, size)))

    run_clear : IsClearBut s.execution to_run
    run_clear j less ne = ap (λ (c : CallState). c.status) (other_call j ne) ∙ below_executed (block setting) s h.inv.facts idle j (omega (arith, less, ne))

    -- it is run and validated
    pub runs_next : Comes setting (Attended s.execution 0 (s.execution + 1) s) (4 * setting.reads + 1300) 1 s
    runs_next =
        steps_on setting 0 w_in s h (3 * setting.reads + 520) to_run
        (due_at setting 0 s Idle (idle 0) ∙ ap (λ u. Some (Ok (counted one_asking 0 u))) (asks_run (block setting) setting.workers s h.inv 0 level within ready)) refl (omega arith)
        (λ k. comes_so (λ t. attended_after s.execution 0 (s.execution + 1) s to_run t (λ j ne. inl (other_call j ne)) (let same = same_incarnation in omega (arith, same)) refl)
        (run_attends s.execution to_run k (get_or-set_same s.tasks 0 (Running s.execution [] None) Idle (worker_there setting s h 0 w_in))
        (λ x ne. get_or-set_other s.tasks 0 x (Running s.execution [] None) Idle ne ∙ idle x) run_clear (omega arith) level (λ is. let less = low is in let same = same_incarnation in omega (arith, less, same))))

  -- ---- the next call to validate, once more

  module _ (s : State) (h : IsSound setting s) (idle : (x : ℕ) → task_at s x ≡ Idle) (behind : s.validation < s.execution) (low : setting.strict ≡ true → (call_at s s.validation).incarnation + 1 < incarnation_limit) where
    -- the abort and what follows it
    after_abort : (t : State) → OnlyCall 0 s.validation (to_check s h idle behind) t → (call_at t s.validation).incarnation ≡ (call_at s s.validation).incarnation → (u : State) → IsSound setting u → AbortOutcome 0 s.validation t u
        → Comes setting (Attended s.validation 1 s.execution s) (3 * setting.reads + 520) 1 u
    after_abort t only same u k (runs_again kept at up) =
        let total = kept_on 0 s.validation (to_check s h idle behind) t u (call_kept 0 s.validation (to_check s h idle behind) t only) kept in
        let clear = to_check_clear s h idle behind in
        let index = index_stays s.validation (to_check s h idle behind) u total clear in
        let most = total.not_below in
        comes_so (λ v. attended_after s.validation 1 s.execution s u v total.calls (omega (arith, same, up)) index)
        (run_attends s.validation u k at (λ x ne. total.tasks x ne ∙ others_idle s h idle behind x ne) (clear_still s.validation (to_check s h idle behind) u total clear)
        (omega (arith, index, behind)) (omega (arith, most)) (λ is. let less = low is in omega (arith, less, same, up)))
    after_abort t only same u k (readies kept at up above) = let index = only.execution in absurd (omega (arith, above, index, behind))

    after_check : (t : State) → IsSound setting t → ValidationOutcome 0 s.validation false (to_check s h idle behind) t → Comes setting (Attended s.validation 1 s.execution s) (3 * setting.reads + 777) 1 t
    after_check t k (passes only at) = comes_here (passed s h idle behind 1 t only at)
    after_check t k (takes_back keys only at few taken stale) =
        comes_then setting (3 * setting.reads + 520) 1 k (abort_ends setting 0 s.validation w_in keys t k at) (after_abort t only (ap (λ (c : CallState). c.incarnation) taken)) (omega (arith, few)) (omega arith)

    -- it is validated and, if need be, run again
    pub validates_again : Comes setting (Attended s.validation 1 s.execution s) (4 * setting.reads + 1300) 1 s
    validates_again = validates_next s h idle behind (3 * setting.reads + 777) (omega arith) after_check
