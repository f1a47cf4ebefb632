-- When a step may be refused because memory ran out.
use Rattle.std.specs.Prelude.{ℕ, nat_lt, Bool, true, false, length, Option, Some, None, Result, Ok, Err, IsTrue}
use Rattle.rv_isa.specs.Decoded.{decoded}
use Rattle.rv_isa.specs.declared.instruction.Instr.{Instr}
use Rattle.rv_isa.specs.declared.instruction.Instr.TheVariants.{Store, Ecall}
use Rattle.rv_mem.specs.Space.{AccessFault, loaded}
use Rattle.rv_mem.specs.declared.access.Access.TheVariants as access
use Rattle.rv_step.specs.declared.machine.Machine.{Machine}
use Rattle.rv_step.specs.Step.{StepResult, Leads, Asks, Going, Over, step}

-- the instruction of a word that was fetched
abbrev pub fetched_instruction : Result ℕ AccessFault → Option Instr
fetched_instruction (Ok word) = decoded word
fetched_instruction (Err cause) = None

-- the instruction at the pc of a machine, if there is one
abbrev pub instruction_at : Machine → Option Instr
instruction_at s = fetched_instruction (loaded 4 access.Execute s.memory s.pc)

-- a store changes memory; an ECALL may copy a value into memory, record a write or keep a long output; nothing else takes memory
abbrev pub may_grow : Option Instr → Bool
may_grow (Some (Store kind source base offset)) = true
may_grow (Some Ecall) = true
may_grow _ = false

-- the call continues after the step, or the step ends it with an output of more than 16 bytes
abbrev pub leaves_more : StepResult → Bool
leaves_more (Leads (Going t)) = true
leaves_more (Leads (Over end out t)) = nat_lt 16 (length out)
leaves_more (Asks key) = false

-- the machine's next step may take memory. It is a store or an ECALL after which the call continues, or an ECALL that ends it
-- with an output of more than 16 bytes. So it does not trap, run out of gas, ask the storage or end with a shorter output
abbrev pub TakesMemory : Machine → Type 0
TakesMemory s = IsTrue (may_grow (instruction_at s)) × IsTrue (leaves_more (step s))
