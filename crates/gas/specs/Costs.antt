-- The gas that each instruction costs
use Rattle.std.specs.Prelude.{ℕ}
use Rattle.rv_isa.specs.declared.instruction.Operation.{Operation}
use Rattle.rv_isa.specs.declared.instruction.Operation.TheVariants.{Mul, Mulh, Mulhsu, Mulhu, Div, Divu, Rem, Remu}
use Rattle.rv_isa.specs.declared.instruction.Instr.{Instr}
use Rattle.rv_isa.specs.declared.instruction.Instr.TheVariants.{Load, Store, Compute, Ecall}

-- the gas of an operation on two registers
abbrev pub cost_of_operation : Operation → ℕ
cost_of_operation Mul = 4
cost_of_operation Mulh = 4
cost_of_operation Mulhsu = 4
cost_of_operation Mulhu = 4
cost_of_operation Div = 16
cost_of_operation Divu = 16
cost_of_operation Rem = 16
cost_of_operation Remu = 16
cost_of_operation _ = 1

-- the gas of an instruction; ECALL costs 0 here, since the storage call that it makes has a charge of its own
abbrev pub cost_of : Instr → ℕ
cost_of (Compute operation rd left right) = cost_of_operation operation
cost_of (Load kind rd base offset) = 2
cost_of (Store kind source base offset) = 2
cost_of Ecall = 0
cost_of _ = 1
