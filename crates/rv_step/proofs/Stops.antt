-- Steps up to a stop: what they are made of, and what they lead to.
use Rattle.std.proofs.Common.{◌≡◌, ℕ, ◌<◌, ◌≤◌, true, List, [], Result, Ok, Err, Some, OnOk, refl, sym, subst, ◌∙◌, arith}
use Rattle.std.specs.declared.alloc.AllocError.{AllocError}
use Rattle.ecalls.specs.StorageCalls.{ecall_charge}
use Rattle.rv_isa.specs.declared.instruction.Instr.TheVariants.{Ecall}
use Rattle.rv_ledger.specs.Call.{Invocation}
use Rattle.rv_ledger.specs.declared.end.End.{End}
use Rattle.rv_step.specs.declared.answer.StorageAnswer.{StorageAnswer}
use Rattle.rv_step.specs.declared.machine.Machine.{Machine}
use Rattle.rv_step.specs.declared.outcome.InstructionOutcome.TheVariants as outcome
use Rattle.rv_step.specs.declared.stage.Stage.{Stage}
use Rattle.rv_step.specs.declared.stage.Stage.TheVariants.{Running, Ended}
use Rattle.rv_step.specs.Growth.{instruction_at}
use Rattle.rv_step.specs.Meets.{MeetsInstructions, MeetsStage, MeetsSteps, Reaches}
use Rattle.rv_step.specs.Run.{IsBeginning, RunView, after_steps, is_running, left_for}
use Rattle.rv_step.specs.Step.{ecall_result, step}
use Rattle.rv_step.proofs.Beginnings.{step_keeps, step_leaves_fewer}
use Rattle.rv_step.proofs.Reached.{came_result, reached_keeps, reached_leaves, reached_steps, running_is}
use Rattle.rv_step.proofs.Steps.{one_more_step}

-- ---- what they are made of

-- memory ran out before a step that is no storage call
pub refused_stops : (s t : Machine) (e : AllocError) → MeetsInstructions (Err e) s t → MeetsSteps (Err e) Running s t
refused_stops s t e did = record {
  count = did.count;
  last = did.last;
  reached = did.reached;
  did = (refl, did.did.1, did.did.2);
  grows = did.did.0;
}

-- the call ended
pub end_stops : (s t : Machine) (end : End) → MeetsInstructions (Ok (outcome.End end)) s t → MeetsSteps (Ok tt) (Ended end []) s t
end_stops s t end did = record { count = did.count; last = did.last; reached = did.reached; did = did.did; grows = tt }

-- a storage call was found, and is the step of the machine at which it was found
module _ (s m t : Machine) (found : MeetsInstructions (Ok outcome.StorageCall) s m) where
  was_reached : Reaches found.count s m
  was_reached = subst (λ (x : Machine). Reaches found.count s x) (sym found.did.2) found.reached

  is_step : step m ≡ ecall_result m (ecall_charge m.regs m.rules)
  is_step = subst (λ (x : Machine). step x ≡ ecall_result x (ecall_charge x.regs x.rules)) (sym found.did.2) found.did.1

  is_ecall : instruction_at m ≡ Some Ecall
  is_ecall = subst (λ (x : Machine). instruction_at x ≡ Some Ecall) (sym found.did.2) found.did.0

  pub ecall_stops : (result : Result (Unit {0}) AllocError) (stage : Stage) → MeetsStage result stage (ecall_result m (ecall_charge m.regs m.rules)) m t → MeetsSteps result stage s t
  ecall_stops (Ok done) stage did = record { count = found.count; last = m; reached = was_reached; did = rw is_step did; grows = tt }
  ecall_stops (Err e) stage did = record { count = found.count; last = m; reached = was_reached; did = rw is_step did; grows = rw is_ecall refl }

-- ---- what they lead to

-- a run stays a beginning of its call's chain
pub stops_keep : (result : Result (Unit {0}) AllocError) (call : Invocation) (s t : Machine) (answers : List StorageAnswer) (stage came : Stage) → is_running stage ≡ true → MeetsSteps result came s t → IsBeginning (record { call = call; machine = s; answers = answers; stage = stage }) → IsBeginning (record { call = call; machine = t; answers = answers; stage = came })
stops_keep (Ok done) call s t answers stage came running did so_far =
    step_keeps call did.last t answers stage came (reached_keeps did.count call s did.last answers stage so_far running did.reached) running did.did
stops_keep (Err e) call s t answers stage came running did so_far =
    rw (did.did.2, did.did.0 ∙ sym (running_is stage running)) (reached_keeps did.count call s did.last answers stage so_far running did.reached)

-- they are steps of the run
pub stops_after : (result : Result (Unit {0}) AllocError) (r : RunView) (t : Machine) (came : Stage) → is_running r.stage ≡ true → MeetsSteps result came r.machine t → (n : ℕ) × (record r { machine = t; stage = came } ≡ after_steps n r)
stops_after (Ok done) r t came running did =
    one_more_step r (record r { machine = did.last }) (record r { machine = t; stage = came }) (did.count, reached_steps did.count r did.last running did.reached) running (came_result (record r { machine = did.last }) t came did.did)
stops_after (Err e) r t came running did =
    rw (did.did.2, did.did.0 ∙ sym (running_is r.stage running)) (did.count, reached_steps did.count r did.last running did.reached)

-- they leave fewer steps to come
pub stops_fewer : (result : Result (Unit {0}) AllocError) (s t : Machine) (stage came : Stage) → is_running stage ≡ true → MeetsSteps result came s t → OnOk result (left_for t.gas came < left_for s.gas stage)
stops_fewer (Ok done) s t stage came running did =
    let less : left_for t.gas came < left_for did.last.gas stage = step_leaves_fewer did.last t stage came running did.did in
    let before : left_for did.last.gas stage ≤ left_for s.gas stage = reached_leaves did.count s did.last stage running did.reached in
    omega arith
stops_fewer (Err e) s t stage came running did = tt

pub stops_left : (result : Result (Unit {0}) AllocError) (s t : Machine) (stage came : Stage) → is_running stage ≡ true → MeetsSteps result came s t → left_for t.gas came ≤ left_for s.gas stage
stops_left (Ok done) s t stage came running did = let less : left_for t.gas came < left_for s.gas stage = stops_fewer (Ok done) s t stage came running did in omega arith
stops_left (Err e) s t stage came running did =
    rw (did.did.2, did.did.0 ∙ sym (running_is stage running)) (reached_leaves did.count s did.last stage running did.reached)
