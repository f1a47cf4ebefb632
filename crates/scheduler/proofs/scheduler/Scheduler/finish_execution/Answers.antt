use Rattle.std.proofs.Common.{◌≡◌, ◌<◌, ◌≤◌, ℕ, false, [], List, arith, length, length-set, set, get_or, sym, subst, ap, ◌∙◌, inl, inr}
use Rattle.std.proofs.lemmas.Bool.{cases_eq}
use Rattle.std.proofs.lemmas.List.{get_or-set_same, get_or-set_other}
use Rattle.std.specs.FinMap.{empty}
use Rattle.stm_state.specs.declared.state.Status.TheVariants.{Aborting, Executed}
use Rattle.stm_state.specs.declared.state.CallState.{CallState}
use Rattle.stm_state.specs.declared.state.Task.{Task}
use Rattle.stm_state.specs.declared.state.Task.TheVariants.{Idle, Validating}
use Rattle.stm_state.specs.State.{State, fresh, with_call, with_task}
use Rattle.stm_state.specs.Steps.{recorded_reads}
use Rattle.scheduler.specs.declared.calls.TheConstants.{LAST_INCARNATION}
use Rattle.scheduler.specs.declared.worker.TaskKind.{TaskKind}
use Rattle.scheduler.specs.Schedule.{Schedule, state_of}
use Rattle.scheduler.specs.Workers.{task_with}
use Rattle.scheduler.proofs.Counted.{all_finished}
use Rattle.scheduler.proofs.scheduler.Scheduler.finish_execution.Goals as goal

-- the incarnations of ABORTING calls are bounded as before if a call becomes EXECUTED
executed_within : (calls : List CallState) (at limit : ℕ) → at < length calls → ((i : ℕ) → (get_or calls i fresh).status ≡ Aborting → (get_or calls i fresh).incarnation ≤ limit)
    → (new : List CallState) → new ≡ set calls at (record (get_or calls at fresh) { status = Executed }) → (i : ℕ) → (get_or new i fresh).status ≡ Aborting → (get_or new i fresh).incarnation ≤ limit
executed_within calls at limit within before new is i h =
    let call : CallState = record (get_or calls at fresh) { status = Executed } in
    let there : get_or (set calls at call) at fresh ≡ call = get_or-set_same calls at call fresh within in
    elim (cases_eq i at) [
      | inl p ↦
          let here : get_or new i fresh ≡ call = ap (λ (l : List CallState). get_or l i fresh) is ∙ ap (λ (k : ℕ). get_or (set calls at call) k fresh) p ∙ there in
          absurd (let both : Executed ≡ Aborting = ap (λ (k : CallState). k.status) (sym here) ∙ h in cc)
      | inr q ↦
          let same : get_or new i fresh ≡ get_or calls i fresh = ap (λ (l : List CallState). get_or l i fresh) is ∙ get_or-set_other calls at i call fresh q in
          subst (λ (k : CallState). k.incarnation ≤ limit) (sym same) (before i (ap (λ (k : CallState). k.status) (sym same) ∙ h))
    ]

pub resume_dependents-requires-clause-within : goal.resume_dependents-requires-clause-within
resume_dependents-requires-clause-within c =
    let after = ap (λ (s : State). length s.calls) (c.end_moving.ensures.state empty 0) in
    let before = ap (λ (t : Schedule). length t.calls) c.count_step.ensures in
    omega (arith, after, before, length-set {A = CallState}, c.requires.within)

pub resume_dependents-requires-clause-incarnations : goal.resume_dependents-requires-clause-incarnations
resume_dependents-requires-clause-incarnations c =
    let calls : c.count_step.new.self.calls ≡ c.args.self.now.calls = ap (λ (t : Schedule). t.calls) c.count_step.ensures in
    executed_within c.count_step.new.self.calls c.args.call LAST_INCARNATION (subst (λ (l : List CallState). c.args.call < length l) (sym calls) c.requires.within)
    (subst (λ (l : List CallState). (i : ℕ) → (get_or l i fresh).status ≡ Aborting → (get_or l i fresh).incarnation ≤ LAST_INCARNATION) (sym calls) c.requires.incarnations)
    c.end_moving.new.self.calls (ap (λ (s : State). s.calls) (c.end_moving.ensures.state empty 0))

pub to_validate-requires-clause-within : goal.to_validate-requires-clause-within
to_validate-requires-clause-within c =
    let resumed = ap (λ (t : Schedule). length t.tasks) c.resume_dependents.ensures in
    let ended = ap (λ (s : State). length s.tasks) (c.end_moving.ensures.state empty 0) in
    let before = ap (λ (t : Schedule). length t.tasks) c.count_step.ensures in
    omega (arith, resumed, ended, before, length-set {A = Task}, c.requires.counts.within)

pub returns-clause-state : goal.returns-clause-state
returns-clause-state c =
    let w = c.args.worker in
    let i = c.args.call in
    let new = c.args.new_key in
    let task = task_with c.validation_of-task_kind.result [] [] in
    let is_task : task ≡ Validating i (get_or c.args.self.now.calls i fresh).incarnation (length (recorded_reads (get_or c.args.self.now.calls i fresh).last)) false =
    ap (λ (d : TaskKind). task_with d [] []) c.validation_of-task_kind.ensures
    ∙ ap (λ (k : CallState). Validating i k.incarnation (length (recorded_reads k.last)) false) (c.call.ensures ∙ ap (λ (t : Schedule). get_or t.calls i fresh) c.count_step.ensures) in
    λ v p. c.to_validate.ensures.state v p
    ∙ all_finished w i new task (state_of v p c.args.self.now) (state_of v p c.end_moving.new.self) (state_of v p c.resume_dependents.new.self)
    (c.end_moving.ensures.state v p ∙ ap (λ (t : Schedule). with_task w Idle (with_call i (record (get_or t.calls i fresh) { status = Executed }) (state_of v p t))) c.count_step.ensures)
    (ap (state_of v p) c.resume_dependents.ensures) is_task
