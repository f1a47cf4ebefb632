-- Machines and runs after steps, after each of which the call continues.
use Rattle.std.proofs.Common.{◌≡◌, ℕ, zero, suc, ◌<◌, ◌≤◌, true, false, List, Ok, refl, sym, ap, ◌∙◌, arith}
use Rattle.rv_ledger.specs.Call.{Invocation}
use Rattle.rv_step.specs.declared.machine.Machine.{Machine}
use Rattle.rv_step.specs.declared.answer.StorageAnswer.{StorageAnswer}
use Rattle.rv_step.specs.declared.stage.Stage.{Stage}
use Rattle.rv_step.specs.declared.stage.Stage.TheVariants.{Running, Asked, Ended}
use Rattle.rv_step.specs.declared.outcome.InstructionOutcome.{InstructionOutcome}
use Rattle.rv_step.specs.declared.outcome.InstructionOutcome.TheVariants as outcome
use Rattle.rv_step.specs.Step.{Leads, Going, step}
use Rattle.rv_step.specs.Meets.{MeetsResult, Reaches, is_next}
use Rattle.rv_step.specs.Run.{IsBeginning, RunView, after_one, after_steps, is_running, left_for, run_after_result}
use Rattle.rv_step.proofs.Falls.{less_gas, step_falls}
use Rattle.rv_step.proofs.Beginnings.{steps_on}
use Rattle.rv_step.proofs.Steps.{more}

-- each machine is reached from itself
pub here : (s : Machine) → (n : ℕ) × Reaches n s s
unfolding Reaches
here s = (zero, refl)

-- a step after which the call continues reaches one machine further
pub further : (s m t : Machine) → (n : ℕ) × Reaches n s m → step m ≡ Leads (Going t) → (n : ℕ) × Reaches n s t
unfolding Reaches
further s m t reached e = (suc reached.0, (m, reached.1, e))

-- such a step leaves less gas
pub next_takes_gas : (s t : Machine) → step s ≡ Leads (Going t) → t.gas < s.gas
next_takes_gas s t e = less_gas s.gas t (step_falls s (Going t) e)

-- such steps return no gas
pub reached_gas : (n : ℕ) (s t : Machine) → Reaches n s t → t.gas ≤ s.gas
unfolding Reaches
reached_gas zero s t reached = let same : t.gas ≡ s.gas = ap (λ (m : Machine). m.gas) reached in omega arith
reached_gas (suc n) s t reached =
    let before : reached.0.gas ≤ s.gas = reached_gas n s reached.0 reached.1 in
    let less : t.gas < reached.0.gas = next_takes_gas reached.0 t reached.2 in
    omega arith

-- a run stays a beginning of its call's chain over such steps
pub reached_keeps : (n : ℕ) (call : Invocation) (s t : Machine) (answers : List StorageAnswer) (stage : Stage) → IsBeginning (record { call = call; machine = s; answers = answers; stage = stage }) → is_running stage ≡ true → Reaches n s t → IsBeginning (record { call = call; machine = t; answers = answers; stage = stage })
unfolding Reaches
reached_keeps zero call s t answers stage so_far running reached = rw reached so_far
reached_keeps (suc n) call s t answers stage so_far running reached =
    steps_on call reached.0 answers stage (reached_keeps n call s reached.0 answers stage so_far running reached.1) running t reached.2

-- it has fewer steps to come
pub reached_leaves : (n : ℕ) (s t : Machine) (stage : Stage) → is_running stage ≡ true → Reaches n s t → left_for t.gas stage ≤ left_for s.gas stage
reached_leaves n s t Running running reached = let less : t.gas ≤ s.gas = reached_gas n s t reached in omega arith
reached_leaves n s t (Asked key) running reached = cc
reached_leaves n s t (Ended end out) running reached = cc

-- an outcome other than Next fails the test for it
pub not_next : (o : InstructionOutcome) → (o ≡ outcome.Next → ⊥) → is_next o ≡ false
not_next outcome.Next h = absurd (h refl)
not_next outcome.StorageCall h = refl
not_next (outcome.End end) h = refl

-- the stage of a run that can make a step
pub running_is : (stage : Stage) → is_running stage ≡ true → stage ≡ Running
running_is Running h = refl
running_is (Asked key) h = cc
running_is (Ended end out) h = cc

-- a run after one step after which the call continues
one_on : (r : RunView) (t : Machine) → is_running r.stage ≡ true → step r.machine ≡ Leads (Going t) → after_one r ≡ record r { machine = t }
one_on r t running e = rw (running) (rw (e) (ap (λ (stage : Stage). record r { machine = t; stage = stage }) (sym (running_is r.stage running))))

-- such steps are steps of the run
pub reached_steps : (n : ℕ) (r : RunView) (t : Machine) → is_running r.stage ≡ true → Reaches n r.machine t → record r { machine = t } ≡ after_steps n r
unfolding Reaches
reached_steps zero r t running reached = ap (λ (m : Machine). record r { machine = m }) reached
reached_steps (suc n) r t running reached =
    sym (one_on (record r { machine = reached.0 }) t running reached.2)
    ∙ ap after_one (reached_steps n r reached.0 running reached.1)
    ∙ sym (more n r)

-- the result of a step is the stage after it
pub came_result : (q : RunView) (t : Machine) (came : Stage) → MeetsResult (Ok came) (step q.machine) q.machine t → record q { machine = t; stage = came } ≡ run_after_result (step q.machine) q
came_result q t Running did = rw did refl
came_result q t (Asked key) did = rw (did.0) (ap (λ (m : Machine). record q { machine = m; stage = Asked key }) did.1)
came_result q t (Ended end out) did = rw did refl
