-- Private help of proofs; no public clause cites it. What the result of a method of the machine says about a step.
use Rattle.std.specs.Prelude.{◌≡◌, ◌<◌, ℕ, zero, suc, List, [], length, Bool, true, false, if◌then◌else◌, Option, Some, None, Result, Ok, Err, IsTrue, OnErr, alloc_error}
use Rattle.rv_isa.specs.declared.instruction.Instr.{Instr}
use Rattle.rv_isa.specs.declared.instruction.Instr.TheVariants.{Ecall}
use Rattle.rv_ledger.specs.declared.end.End.{End}
use Rattle.rv_ledger.specs.declared.end.End.TheVariants.{Trapped}
use Rattle.rv_ledger.specs.declared.end.Trap.TheVariants as trap
use Rattle.ecalls.specs.StorageCalls.{a0, a1, ecall_charge, is_readable}
use Rattle.rv_mem.specs.Space.{bytes_at}
use Rattle.rv_mem.specs.declared.fault.Fault.{Fault}
use Rattle.rv_mem.specs.declared.fault.Fault.TheVariants as fault
use Rattle.std.specs.declared.alloc.AllocError.{AllocError}
use Rattle.rv_step.specs.declared.machine.Machine.{Machine}
use Rattle.rv_step.specs.declared.outcome.InstructionOutcome.{InstructionOutcome}
use Rattle.rv_step.specs.declared.outcome.InstructionOutcome.TheVariants as outcome
use Rattle.rv_step.specs.declared.stage.Stage.{Stage}
use Rattle.rv_step.specs.declared.stage.Stage.TheVariants.{Running, Asked, Ended}
use Rattle.rv_step.specs.Growth.{leaves_more, instruction_at, may_grow}
use Rattle.rv_step.specs.Step.{Progress, Going, Over, StepResult, Leads, Asks, ecall_result, step}

-- a method did what was wanted. A READ that asks the storage changes nothing. Running out of memory happens only if the call
-- would continue or end with an output of more than 16 bytes, and changes nothing
abbrev pub MeetsResult : Result Stage AllocError → StepResult → Machine → Machine → Type 0
MeetsResult (Ok Running) want old new = want ≡ Leads (Going new)
MeetsResult (Ok (Asked key)) want old new = (want ≡ Asks key) × (new ≡ old)
MeetsResult (Ok (Ended end out)) want old new = want ≡ Leads (Over end out new)
MeetsResult (Err refused) want old new = IsTrue (leaves_more want) × (new ≡ old)

-- the same for a method of a machine that is running, which writes how far the run is into a stage
abbrev pub MeetsStage : Result (Unit {0}) AllocError → Stage → StepResult → Machine → Machine → Type 0
MeetsStage (Ok done) stage want old new = MeetsResult (Ok stage) want old new
MeetsStage (Err refused) stage want old new = (stage ≡ Running) × IsTrue (leaves_more want) × (new ≡ old)

-- the same for a method that only finds an ECALL, and then has not changed the machine. `instr` is the instruction, if there is
-- one
abbrev pub MeetsInstruction : Result InstructionOutcome AllocError → Option Instr → StepResult → Machine → Machine → Type 0
MeetsInstruction (Ok outcome.Next) instr want old new = want ≡ Leads (Going new)
MeetsInstruction (Ok outcome.StorageCall) instr want old new = (instr ≡ Some Ecall) × (want ≡ ecall_result old (ecall_charge old.regs old.rules)) × (new ≡ old)
MeetsInstruction (Ok (outcome.End end)) instr want old new = want ≡ Leads (Over end [] new)
MeetsInstruction (Err refused) instr want old new = IsTrue (may_grow instr) × IsTrue (leaves_more want) × (new ≡ old)

-- the machine continues
abbrev pub is_next : InstructionOutcome → Bool
is_next outcome.Next = true
is_next _ = false

-- `t` comes after this number of steps from `s`, and the call continues after each of them
unfoldable pub Reaches : ℕ → Machine → Machine → Type 0
Reaches zero s t = t ≡ s
Reaches (suc n) s t = (m : Machine) × Reaches n s m × (step m ≡ Leads (Going t))

-- the same for a method that executes instructions up to one with this result: `count` instructions came before it, and
-- it was executed at the machine `last`
pub record MeetsInstructions (result : Result InstructionOutcome AllocError) (old new : Machine) : Type 0 where
  pub count : ℕ
  pub last : Machine
  pub reached : Reaches count old last
  pub did : MeetsInstruction result (instruction_at last) (step last) last new

-- the same for a method that makes steps. The last one is the first after which the call does not continue, or a storage call.
-- `count` steps came before the last one, which was made at the machine `last`
pub record MeetsSteps (result : Result (Unit {0}) AllocError) (stage : Stage) (old new : Machine) : Type 0 where
  pub count : ℕ
  pub last : Machine
  pub reached : Reaches count old last
  pub did : MeetsStage result stage (step last) last new
  pub grows : OnErr result (IsTrue (may_grow (instruction_at last)))

-- the same for a method that executes an instruction other than an ECALL: None if the machine continues, or how the call ends
abbrev pub MeetsEffect : Result (Option End) AllocError → Instr → Progress → Machine → Machine → Type 0
MeetsEffect (Ok None) instr want old new = want ≡ Going new
MeetsEffect (Ok (Some end)) instr want old new = want ≡ Over end [] new
MeetsEffect (Err refused) instr want old new = IsTrue (may_grow (Some instr)) × IsTrue (leaves_more (Leads want)) × (new ≡ old)

-- the output of a RETURN or a REVERT, or None if a byte of it may not be read
abbrev pub output_of : Machine → Option (List ℕ)
output_of s = if is_readable s.memory (a0 s.regs) (a1 s.regs) then Some (bytes_at s.memory (a0 s.regs) (a1 s.regs)) else None

-- a method found that output. Running out of memory happens only if the output has more than 16 bytes
abbrev pub MeetsOutput : Result (Option (List ℕ)) AllocError → Machine → Type 0
MeetsOutput (Ok out) s = out ≡ output_of s
MeetsOutput (Err refused) s = IsTrue (is_readable s.memory (a0 s.regs) (a1 s.regs)) × (16 < length (bytes_at s.memory (a0 s.regs) (a1 s.regs)))

-- the storage is asked
abbrev pub is_asked : Stage → Bool
is_asked (Asked key) = true
is_asked _ = false

-- what a refused change of memory means: a trap, or an error if memory ran out
abbrev pub refusal_of : Fault → Result End AllocError
refusal_of fault.Misaligned = Ok (Trapped trap.Misaligned)
refusal_of fault.MemoryFault = Ok (Trapped trap.MemoryFault)
refusal_of fault.FetchFault = Ok (Trapped trap.FetchFault)
refusal_of fault.Memory = Err alloc_error
