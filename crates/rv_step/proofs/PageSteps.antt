-- Steps of a machine in a page of code.
use Rattle.std.proofs.Common.{◌≡◌, ℕ, zero, suc, ◌+◌, ◌-◌, ◌%◌, ◌^◌, ◌<◌, ◌≤◌, ◌==◌, pos, ◌+ℤ◌, Bool, true, false, nat_le, if◌then◌else◌, List, Option, Some, None, Result, Ok, Err, IsTrue, refl, sym, ap, ◌∙◌, arith}
use Rattle.std.proofs.lemmas.Bool.Decides.{nat_tests}
use Rattle.std.proofs.lemmas.Int.{ints}
use Rattle.rv_mem.specs.Code.{IsCode, word_in}
use Rattle.ecalls.specs.StorageCalls.{ecall_charge}
use Rattle.gas.specs.Costs.{cost_of}
use Rattle.rv_alu.specs.Accesses.{extended_of, store_width, width_of}
use Rattle.rv_alu.specs.Branches.{is_taken}
use Rattle.rv_alu.specs.Effects.{effect_of, is_plain, jumped, onward, register_value}
use Rattle.rv_isa.specs.Decoded.{decoded}
use Rattle.rv_isa.specs.Decoding.{instr_of}
use Rattle.rv_isa.specs.Number.{wrapped}
use Rattle.rv_isa.specs.Registers.{written}
use Rattle.rv_isa.specs.declared.instruction.Instr.{Instr}
use Rattle.rv_isa.specs.declared.instruction.Instr.TheVariants.{Jal, Jalr, Branch, Load, Store, Ecall, Ebreak}
use Rattle.rv_isa.specs.declared.instruction.LoadKind.{LoadKind}
use Rattle.rv_isa.specs.declared.instruction.StoreKind.{StoreKind}
use Rattle.rv_isa.specs.declared.operands.Immediate.{Immediate}
use Rattle.rv_isa.specs.declared.register.Reg.{Reg}
use Rattle.rv_mem.specs.Space.{AccessFault, Space, as_answer, loaded, stored}
use Rattle.rv_mem.specs.declared.access.Access.TheVariants as access
use Rattle.rv_mem.proofs.PageOfCode.{code_word, keeps_stored}
use Rattle.rv_step.specs.declared.machine.Machine.{Machine}
use Rattle.rv_step.specs.PageSteps.{GoesOn}
use Rattle.rv_step.specs.Step.{Progress, Going, Leads, address_of, charged, compute_result, decode_result, ecall_result, fetch_result, instruction_result, is_ecall, load_result, memory_result, step}
use Rattle.rv_step.specs.Growth.{fetched_instruction, instruction_at}
use Rattle.rv_step.specs.Meets.{MeetsInstructions, Reaches}
use Rattle.std.specs.declared.alloc.AllocError.{AllocError}
use Rattle.rv_step.specs.declared.outcome.InstructionOutcome.{InstructionOutcome}
use Rattle.rv_step.proofs.Reached.{further}

-- ---- charges

-- what can be paid is paid
paid : (cost : ℕ) (s : Machine) (act : Machine → Progress) → cost ≤ s.gas → charged cost s act ≡ act (record s { gas = s.gas - cost })
paid cost s act enough = let e : nat_le cost s.gas ≡ true = grind (arith, nat_tests) in rw e refl

-- the pc of the next instruction
next_pc : (pc : ℕ) → wrapped (pos pc +ℤ pos 4) ≡ (pc + 4) % 2 ^ 32
next_pc pc = grind (arith, ints)

-- ---- instructions that change only registers and the pc

no_ecall : (i : Instr) → IsTrue (is_plain i) → is_ecall i ≡ false
no_ecall Ecall h = absurd (cc)
no_ecall i h = refl

plain_result : (i : Instr) (s : Machine) → IsTrue (is_plain i) → instruction_result i s ≡ compute_result s (effect_of i s.regs s.pc)
unfolding instruction_result
plain_result (Load kind rd base offset) s h = absurd (cc)
plain_result (Store kind source base offset) s h = absurd (cc)
plain_result Ecall s h = absurd (cc)
plain_result Ebreak s h = absurd (cc)
plain_result i s h = refl

-- the pc after an instruction, or 0 if it has none
abbrev pc_after : Option (List ℕ × ℕ) → ℕ
pc_after (Some (registers, pc)) = pc
pc_after None = 0

-- they keep the pc aligned
onward_even : (registers new : List ℕ) (pc next : ℕ) → onward registers pc ≡ Some (new, next) → pc % 4 ≡ 0 → next % 4 ≡ 0
onward_even registers new pc next e even =
    let is : wrapped (pos pc +ℤ pos 4) ≡ next = ap pc_after e in
    let at : (pc + 4) % 2 ^ 32 ≡ next = sym (next_pc pc) ∙ is in
    omega arith

jumped_even : (registers new : List ℕ) (target next : ℕ) → jumped registers target ≡ Some (new, next) → next % 4 ≡ 0
jumped_even registers new target next e = by_test (target % 4 == 0) refl
  where
    by_test : (b : Bool) → (target % 4 == 0) ≡ b → next % 4 ≡ 0
    by_test true is =
        let same : target ≡ next = ap pc_after (rw is at e) in
        let even : target % 4 ≡ 0 = grind (arith, nat_tests) in
        rw (← same) even
    by_test false is = absurd (let none : None ≡ Some (new, next) = rw is at e in cc)

branch_even : (taken : Bool) (registers new : List ℕ) (pc target next : ℕ) → (if taken then jumped registers target else onward registers pc) ≡ Some (new, next) → pc % 4 ≡ 0 → next % 4 ≡ 0
branch_even true registers new pc target next e even = jumped_even registers new target next e
branch_even false registers new pc target next e even = onward_even registers new pc next e even

effect_even : (i : Instr) (registers new : List ℕ) (pc next : ℕ) → effect_of i registers pc ≡ Some (new, next) → pc % 4 ≡ 0 → next % 4 ≡ 0
effect_even (Jal rd offset) registers new pc next e even = jumped_even _ new _ next e
effect_even (Jalr rd base offset) registers new pc next e even = jumped_even _ new _ next e
effect_even (Branch condition left right offset) registers new pc next e even = branch_even (is_taken condition (register_value registers left) (register_value registers right)) registers new pc (wrapped (pos pc +ℤ offset.value)) next e even
effect_even i registers new pc next e even = onward_even _ new pc next e even

pub plain_goes : (i : Instr) (s : Machine) (registers : List ℕ) (next : ℕ) → IsTrue (is_plain i) → cost_of i ≤ s.gas → effect_of i s.regs s.pc ≡ Some (registers, next) → GoesOn (Some i) s (record s { pc = next; gas = s.gas - cost_of i; regs = registers })
plain_goes i s registers next plain enough e =
    let t : Machine = record s { gas = s.gas - cost_of i } in
    record {
      made = rw (no_ecall i plain) (ap Leads (paid (cost_of i) s (instruction_result i) enough ∙ plain_result i t plain ∙ ap (compute_result t) e));
      stays = λ first code is. is;
      even = effect_even i s.regs registers s.pc next e;
    }

-- ---- loads and stores

-- what was answered is what was read
answer_ok : (r : Result ℕ AccessFault) (number : ℕ) → Ok number ≡ as_answer r → r ≡ Ok number
answer_ok (Ok n) number e = cc
answer_ok (Err cause) number e = absurd (cc)

-- the pc stays aligned
next_even : (pc : ℕ) → pc % 4 ≡ 0 → (pc + 4) % 2 ^ 32 % 4 ≡ 0
next_even pc even = omega arith

pub load_goes : (kind : LoadKind) (rd base : Reg) (offset : Immediate) (s : Machine) (number : ℕ) → 2 ≤ s.gas → Ok number ≡ as_answer (loaded (width_of kind) access.Read s.memory (address_of s base offset)) → GoesOn (Some (Load kind rd base offset)) s (record s { pc = (s.pc + 4) % 2 ^ 32; gas = s.gas - 2; regs = written s.regs rd.number (extended_of kind number) })
unfolding instruction_result
load_goes kind rd base offset s number enough e =
    let read = answer_ok (loaded (width_of kind) access.Read s.memory (address_of s base offset)) number e in
    let t : Machine = record s { gas = s.gas - 2 } in
    record {
      made = ap Leads (paid 2 s (instruction_result (Load kind rd base offset)) enough ∙ ap (load_result kind rd t) read ∙ ap (λ (pc : ℕ). Going (record t { pc = pc; regs = written s.regs rd.number (extended_of kind number) })) (next_pc s.pc));
      stays = λ first code is. is;
      even = next_even s.pc;
    }

pub store_goes : (kind : StoreKind) (source base : Reg) (offset : Immediate) (s : Machine) (memory : Space) → 2 ≤ s.gas → stored (store_width kind) s.memory (address_of s base offset) (register_value s.regs source) ≡ Ok memory → GoesOn (Some (Store kind source base offset)) s (record s { pc = (s.pc + 4) % 2 ^ 32; gas = s.gas - 2; memory = memory })
unfolding instruction_result
store_goes kind source base offset s memory enough e =
    let t : Machine = record s { gas = s.gas - 2 } in
    record {
      made = ap Leads (paid 2 s (instruction_result (Store kind source base offset)) enough ∙ ap (memory_result t s.regs) e ∙ ap (λ (pc : ℕ). Going (record t { pc = pc; memory = memory })) (next_pc s.pc));
      stays = (keeps_stored (store_width kind) s.memory memory (address_of s base offset) (register_value s.regs source) e).code;
      even = next_even s.pc;
    }

-- ---- the instruction of a page of code

-- a machine in a page of code makes the step of the word at its pc
pub page_step : (s : Machine) (first : ℕ) (code : List ℕ) (word : ℕ) → IsCode s.memory first code → s.pc % 4 ≡ 0 → first ≤ s.pc → s.pc < first + 4096 → word ≡ word_in code (s.pc - first) → step s ≡ decode_result s (decoded word)
unfolding step
page_step s first code word is even from below e =
    rw (code_word s.memory first code s.pc is even from below, e) refl

-- and the machine's instruction is that of the word
pub page_instruction : (s : Machine) (first : ℕ) (code : List ℕ) (word : ℕ) → IsCode s.memory first code → s.pc % 4 ≡ 0 → first ≤ s.pc → s.pc < first + 4096 → word ≡ word_in code (s.pc - first) → instruction_at s ≡ decoded word
page_instruction s first code word is even from below e =
    rw (code_word s.memory first code s.pc is even from below, e) refl

-- the word of an ECALL
pub ecall_word : decoded 0x73 ≡ Some Ecall
unfolding decoded instr_of
ecall_word = refl

-- the step at an ECALL
at_ecall : (s : Machine) (r : Result ℕ AccessFault) → fetched_instruction r ≡ Some Ecall → fetch_result s r ≡ ecall_result s (ecall_charge s.regs s.rules)
at_ecall s (Ok word) e = rw e refl
at_ecall s (Err cause) e = absurd (cc)

pub ecall_step : (s : Machine) → instruction_at s ≡ Some Ecall → step s ≡ ecall_result s (ecall_charge s.regs s.rules)
unfolding step
ecall_step s e = at_ecall s (loaded 4 access.Execute s.memory s.pc) e

-- steps after steps
pub reached_on : (m : ℕ) (r s t : Machine) → (n : ℕ) × Reaches n r s → Reaches m s t → (n : ℕ) × Reaches n r t
unfolding Reaches
reached_on zero r s t before reached = rw reached before
reached_on (suc m) r s t before reached = further r reached.0 t (reached_on m r s reached.0 before reached.1) reached.2

-- instructions up to one with this result, after steps
pub meets_on : (result : Result InstructionOutcome AllocError) (r s t : Machine) → (n : ℕ) × Reaches n r s → MeetsInstructions result s t → MeetsInstructions result r t
meets_on result r s t before did =
    let on = reached_on did.count r s did.last before did.reached in
    record { count = on.0; last = did.last; reached = on.1; did = did.did }
