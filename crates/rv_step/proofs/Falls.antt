-- Each step takes gas, so that a chain ends.
use Rattle.std.proofs.Common.{◌≡◌, ℕ, ◌-◌, ◌<◌, ◌≤◌, Bool, true, false, nat_le, List, Option, Some, None, Result, Ok, Err, refl, subst, arith, lit≤}
use Rattle.std.proofs.lemmas.Bool.Decides.{nat_tests}
use Rattle.rv_isa.specs.Decoded.{decoded}
use Rattle.rv_isa.specs.declared.instruction.Operation.{Operation}
use Rattle.rv_isa.specs.declared.instruction.Operation.TheVariants.{Add}
use Rattle.rv_isa.specs.declared.instruction.Instr.{Instr}
use Rattle.rv_isa.specs.declared.instruction.Instr.TheVariants.{Compute, Ecall}
use Rattle.gas.specs.Costs.{cost_of, cost_of_operation}
use Rattle.rv_mem.specs.Space.{AccessFault, loaded}
use Rattle.rv_mem.specs.declared.access.Access.TheVariants as access
use Rattle.rv_ledger.specs.declared.end.End.{End}
use Rattle.rv_ledger.specs.declared.end.Trap.{Trap}
use Rattle.ecalls.specs.StorageCalls.{requested_call, charge_of, charge_asked}
use Rattle.ecalls.specs.declared.storage_call.StorageCall.{StorageCall}
use Rattle.ecalls.specs.declared.storage_call.StorageCall.TheVariants as call
use Rattle.rv_step.specs.declared.machine.Machine.{Machine}
use Rattle.rv_step.specs.Charged.{gas_left}
use Rattle.rv_step.specs.Step.{Progress, Going, Over, StepResult, Leads, Asks, TakesGas, charged_call_result, instruction_result, answered, ecall_result, charged, delivery_result, fetch_result, is_ecall, decode_result, step}
use Rattle.rv_step.proofs.Kept.{IsKept, StepStays, acts, acts_charged, delivers}

-- a step leaves less gas if the call continues, and no more if it ends
unfoldable pub IsFalling : ℕ → Progress → Type 0
IsFalling gas (Going t) = t.gas < gas
IsFalling gas (Over end out t) = t.gas ≤ gas

-- so does a step that does not ask
unfoldable IsStepFalling : ℕ → StepResult → Type 0
IsStepFalling gas (Leads progress) = IsFalling gas progress
IsStepFalling gas (Asks key) = Unit {0}

-- gas is at most this number, also after what a step does
no_more : (gas : ℕ) → IsKept (λ t. t.gas ≤ gas)
no_more gas = record {
  moves = λ s registers pc h. h;
  pays = λ s left fits h. omega arith;
  stores = λ s memory keeps h. h;
  writes = λ s write asked room h. h;
}

acted_within : (i : Instr) (s : Machine) → gas_left (instruction_result i s) ≤ s.gas
acted_within i s = acts _ (no_more s.gas) i s (omega arith)

delivered_within : (s : Machine) (content : Option (List ℕ)) → gas_left (delivery_result s content) ≤ s.gas
delivered_within s content = delivers _ (no_more s.gas) s content (omega arith)

within_falls : (gas rest : ℕ) (o : Progress) → rest < gas → gas_left o ≤ rest → IsFalling gas o
unfolding IsFalling
within_falls gas rest (Going t) h k = omega arith
within_falls gas rest (Over end out t) h k = omega arith

charged_cases : (cost : ℕ) (s : Machine) (act : Machine → Progress) (b : Bool) → nat_le cost s.gas ≡ b → 1 ≤ cost → ((t : Machine) → gas_left (act t) ≤ t.gas) → IsFalling s.gas (charged cost s act)
charged_cases cost s act true e h k = rw e (within_falls s.gas (s.gas - cost) _ (let fits : cost ≤ s.gas = grind (arith, nat_tests) in omega arith) (k (record s { gas = s.gas - cost })))
charged_cases cost s act false e h k = rw e (unfold IsFalling in omega arith)

-- an instruction that costs takes gas
charged_falls : (cost : ℕ) (s : Machine) (act : Machine → Progress) → 1 ≤ cost → ((t : Machine) → gas_left (act t) ≤ t.gas) → IsFalling s.gas (charged cost s act)
charged_falls cost s act h k = charged_cases cost s act (nat_le cost s.gas) refl h k

operation_costs : (o : Operation) → 1 ≤ cost_of_operation o
operation_costs Add = lit≤ tt
operation_costs o = lit≤ tt

-- an instruction has a charge above 0
pub instr_costs : (i : Instr) → is_ecall i ≡ false → 1 ≤ cost_of i
instr_costs (Compute operation rd left right) h = operation_costs operation
instr_costs Ecall h = cc
instr_costs i h = lit≤ tt

-- so has a storage call
pub call_costs : (c : StorageCall) (registers : List ℕ) → 1 ≤ charge_of c registers
call_costs call.Read registers = lit≤ tt
call_costs call.Write registers = omega arith
call_costs call.Remove registers = lit≤ tt
call_costs call.Return registers = omega arith
call_costs call.Revert registers = omega arith
call_costs call.Add registers = lit≤ tt

call_falls : (gas : ℕ) (t : Machine) (o : StepResult) → t.gas < gas → StepStays (λ u. u.gas ≤ t.gas) (no_more t.gas) o → IsStepFalling gas o
unfolding IsStepFalling
call_falls gas t (Leads progress) h k = within_falls gas t.gas progress h k
call_falls gas t (Asks key) h k = tt

called_cases : (cost : ℕ) (s : Machine) (b : Bool) → nat_le cost s.gas ≡ b → 1 ≤ cost → IsStepFalling s.gas (ecall_result s (Ok cost))
called_cases cost s true e h =
    let t : Machine = record s { gas = s.gas - cost } in
    rw e (call_falls s.gas t (charged_call_result t) (let fits : cost ≤ s.gas = grind (arith, nat_tests) in omega arith) (acts_charged _ (no_more t.gas) t (omega arith)))
called_cases cost s false e h = rw e (unfold IsStepFalling in unfold IsFalling in omega arith)

called_falls : (s : Machine) (r : Result StorageCall Trap) → IsStepFalling s.gas (ecall_result s (charge_asked s.regs r))
called_falls s (Err cause) = unfold IsStepFalling in unfold IsFalling in omega arith
called_falls s (Ok c) = called_cases (charge_of c s.regs) s (nat_le (charge_of c s.regs) s.gas) refl (call_costs c s.regs)

obeyed_cases : (s : Machine) (i : Instr) (b : Bool) → is_ecall i ≡ b → IsStepFalling s.gas (decode_result s (Some i))
obeyed_cases s i true e = rw e (called_falls s (requested_call s.regs s.rules))
obeyed_cases s i false e = rw e (unfold IsStepFalling in charged_falls _ s (λ t. instruction_result i t) (instr_costs i e) (λ t. acted_within i t))

obeyed_falls : (s : Machine) (o : Option Instr) → IsStepFalling s.gas (decode_result s o)
obeyed_falls s None = unfold IsStepFalling in unfold IsFalling in omega arith
obeyed_falls s (Some i) = obeyed_cases s i (is_ecall i) refl

fetched_falls : (s : Machine) (r : Result ℕ AccessFault) → IsStepFalling s.gas (fetch_result s r)
fetched_falls s (Ok word) = obeyed_falls s (decoded word)
fetched_falls s (Err cause) = unfold IsStepFalling in unfold IsFalling in omega arith

step_falling : (s : Machine) → IsStepFalling s.gas (step s)
unfolding step
step_falling s = fetched_falls s (loaded 4 access.Execute s.memory s.pc)

-- a step takes gas
pub step_falls : (s : Machine) (progress : Progress) → step s ≡ Leads progress → IsFalling s.gas progress
unfolding IsStepFalling
step_falls s progress e = subst (λ o. IsStepFalling s.gas o) e (step_falling s)

-- so does a step that is answered
pub answered_falls : (s : Machine) (content : Option (List ℕ)) → IsFalling s.gas (answered s content)
unfolding answered
answered_falls s content = charged_falls 200 s (λ t. delivery_result t content) (lit≤ tt) (λ t. delivered_within t content)

-- the gas falls if the call continues, and does not rise if it ends
pub less_gas : (gas : ℕ) (t : Machine) → IsFalling gas (Going t) → t.gas < gas
unfolding IsFalling
less_gas gas t h = h

pub end_gas : (gas : ℕ) (end : End) (out : List ℕ) (t : Machine) → IsFalling gas (Over end out t) → t.gas ≤ gas
unfolding IsFalling
end_gas gas end out t h = h

charge_taken : (cost : ℕ) (s : Machine) (act : Machine → Progress) → 1 ≤ cost → cost ≤ s.gas → ((t : Machine) → gas_left (act t) ≤ t.gas) → gas_left (charged cost s act) < s.gas
charge_taken cost s act costs fits k =
    let t : Machine = record s { gas = s.gas - cost } in
    let there : nat_le cost s.gas ≡ true = grind (arith, nat_tests) in
    let left = k t in
    rw there (omega (arith, left))

pub charged_instruction_takes : (s : Machine) (instr : Instr) → is_ecall instr ≡ false → cost_of instr ≤ s.gas → gas_left (charged (cost_of instr) s (λ t. instruction_result instr t)) < s.gas
charged_instruction_takes s instr other fits = charge_taken (cost_of instr) s (λ t. instruction_result instr t) (instr_costs instr other) fits (λ t. acted_within instr t)

pub charged_answer_takes : (s : Machine) (content : Option (List ℕ)) → charge_of call.Read s.regs ≤ s.gas → gas_left (answered s content) < s.gas
unfolding answered
charged_answer_takes s content fits = charge_taken (charge_of call.Read s.regs) s (λ t. delivery_result t content) (lit≤ tt) fits (λ t. delivered_within t content)

pub charged_call_takes : (s : Machine) (c : StorageCall) (progress : Progress) → charge_of c s.regs ≤ s.gas → ecall_result s (Ok (charge_of c s.regs)) ≡ Leads progress → gas_left progress < s.gas
charged_call_takes s c progress fits led =
    let t : Machine = record s { gas = s.gas - charge_of c s.regs } in
    let there : nat_le (charge_of c s.regs) s.gas ≡ true = grind (arith, nat_tests) in
    let costs = call_costs c s.regs in
    let left : gas_left progress ≤ t.gas = subst (λ o. StepStays (λ u. u.gas ≤ t.gas) (no_more t.gas) o) (rw there at led) (acts_charged _ (no_more t.gas) t (omega arith)) in
    omega (arith, costs, left)

takes_gas : (s : Machine) (progress : Progress) → IsFalling s.gas progress → TakesGas s progress
unfolding IsFalling
takes_gas s (Going t) h = h
takes_gas s (Over end out t) h = h

pub step_takes_gas : (s : Machine) (progress : Progress) → step s ≡ Leads progress → TakesGas s progress
step_takes_gas s progress e = takes_gas s progress (step_falls s progress e)

pub answer_takes_gas : (s : Machine) (content : Option (List ℕ)) → TakesGas s (answered s content)
answer_takes_gas s content = takes_gas s (answered s content) (answered_falls s content)
