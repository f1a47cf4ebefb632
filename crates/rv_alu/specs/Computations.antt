-- Private help of proofs; no public clause cites it
use Rattle.std.specs.Prelude.{Bool, true, false}
use Rattle.rv_isa.specs.declared.instruction.Instr.{Instr}
use Rattle.rv_isa.specs.declared.instruction.Instr.TheVariants.{Lui, Auipc, ComputeImmediate, ShiftImmediate, Compute, Fence}

-- an instruction that writes rd, or nothing, and goes on to the next instruction
abbrev pub is_computation : Instr → Bool
is_computation (Lui rd immediate) = true
is_computation (Auipc rd immediate) = true
is_computation (ComputeImmediate operation rd source immediate) = true
is_computation (ShiftImmediate shift rd source amount) = true
is_computation (Compute operation rd left right) = true
is_computation (Fence rd source immediate) = true
is_computation _ = false
