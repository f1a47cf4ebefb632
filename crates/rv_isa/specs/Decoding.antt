-- Words read backwards: the slots of a word, and the instruction of slots. A definition whose name ends in `_at` makes
-- an operand, or an entry of a table, from a number. The assembler uses those of operands too.
use Rattle.std.specs.Prelude.{ℕ, ◌+◌, ◌*◌, ◌/◌, ◌%◌, ◌^◌, ◌==◌, ◌&&◌, if◌then◌else◌}
use Rattle.std.specs.Option.{option_map}
use Rattle.std.specs.Prelude.{Option, Some, None}
use Rattle.rv_isa.specs.Number.{extended}
use Rattle.rv_isa.specs.InRange.{amount_small, branch_small, immediate_small, jump_small, register_small, upper_small}
use Rattle.rv_isa.specs.declared.register.Reg.{Reg}
use Rattle.rv_isa.specs.declared.operands.Immediate.{Immediate}
use Rattle.rv_isa.specs.declared.operands.BranchOffset.{BranchOffset}
use Rattle.rv_isa.specs.declared.operands.JumpOffset.{JumpOffset}
use Rattle.rv_isa.specs.declared.operands.Upper.{Upper}
use Rattle.rv_isa.specs.declared.operands.ShiftAmount.{ShiftAmount}
use Rattle.rv_isa.specs.declared.instruction.Condition.{Condition}
use Rattle.rv_isa.specs.declared.instruction.Condition.TheVariants.{Beq, Bne, Blt, Bge, Bltu, Bgeu}
use Rattle.rv_isa.specs.declared.instruction.LoadKind.{LoadKind}
use Rattle.rv_isa.specs.declared.instruction.LoadKind.TheVariants.{Lb, Lh, Lw, Lbu, Lhu}
use Rattle.rv_isa.specs.declared.instruction.StoreKind.{StoreKind}
use Rattle.rv_isa.specs.declared.instruction.StoreKind.TheVariants.{Sb, Sh, Sw}
use Rattle.rv_isa.specs.declared.instruction.ImmediateOperation.{ImmediateOperation}
use Rattle.rv_isa.specs.declared.instruction.ImmediateOperation.TheVariants.{Addi, Slti, Sltiu, Xori, Ori, Andi}
use Rattle.rv_isa.specs.declared.instruction.Shift.{Shift}
use Rattle.rv_isa.specs.declared.instruction.Shift.TheVariants.{Slli, Srli, Srai}
use Rattle.rv_isa.specs.declared.instruction.Operation.{Operation}
use Rattle.rv_isa.specs.declared.instruction.Operation.TheVariants.{Add, Sub, Sll, Slt, Sltu, Xor, Srl, Sra, Or, And, Mul, Mulh, Mulhsu, Mulhu, Div, Divu, Rem, Remu}
use Rattle.rv_isa.specs.declared.instruction.Instr.{Instr}
use Rattle.rv_isa.specs.declared.instruction.Instr.TheVariants.{Lui, Auipc, Jal, Jalr, Branch, Load, Store, ComputeImmediate, ShiftImmediate, Compute, Fence, Ecall, Ebreak}

-- the fields of a word, cut as in the R format
pub record Slots : Type 0 where
  pub opcode : ℕ
  pub rd : ℕ
  pub funct3 : ℕ
  pub rs1 : ℕ
  pub rs2 : ℕ
  pub funct7 : ℕ

abbrev pub slots : ℕ → ℕ → ℕ → ℕ → ℕ → ℕ → Slots
slots f7 r2 r1 f3 d op = record { opcode = op; rd = d; funct3 = f3; rs1 = r1; rs2 = r2; funct7 = f7 }

abbrev pub slots_of : ℕ → Slots
slots_of w = slots (w / 2 ^ 25) (w / 2 ^ 20 % 2 ^ 5) (w / 2 ^ 15 % 2 ^ 5) (w / 2 ^ 12 % 2 ^ 3) (w / 2 ^ 7 % 2 ^ 5) (w % 2 ^ 7)

-- ---- operands

abbrev pub register_at : ℕ → Reg
register_at n = record { number = n % 2 ^ 5; in_range = register_small n }

abbrev pub amount_at : ℕ → ShiftAmount
amount_at n = record { value = n % 2 ^ 5; in_range = amount_small n }

abbrev pub upper_at : ℕ → Upper
upper_at n = record { value = n % 2 ^ 20; in_range = upper_small n }

abbrev pub immediate_at : ℕ → Immediate
immediate_at n = record { value = extended 12 (n % 2 ^ 12); in_range = immediate_small n }

-- the offset whose bits 12 to 1 are `half`; bit 0 is 0
abbrev pub branch_at : ℕ → BranchOffset
branch_at half = record { value = extended 13 (half % 2 ^ 12 * 2); in_range = branch_small half }

-- the offset whose bits 20 to 1 are `half`; bit 0 is 0
abbrev pub jump_at : ℕ → JumpOffset
jump_at half = record { value = extended 21 (half % 2 ^ 20 * 2); in_range = jump_small half }

abbrev pub i_immediate : Slots → Immediate
i_immediate s = immediate_at (s.funct7 * 2 ^ 5 + s.rs2)

abbrev pub s_immediate : Slots → Immediate
s_immediate s = immediate_at (s.funct7 * 2 ^ 5 + s.rd)

abbrev pub b_offset : Slots → BranchOffset
b_offset s = branch_at (s.funct7 / 2 ^ 6 * 2 ^ 11 + s.rd % 2 * 2 ^ 10 + s.funct7 % 2 ^ 6 * 2 ^ 4 + s.rd / 2)

abbrev pub u_immediate : Slots → Upper
u_immediate s = upper_at (s.funct7 * 2 ^ 13 + s.rs2 * 2 ^ 8 + s.rs1 * 2 ^ 3 + s.funct3)

abbrev pub j_offset : Slots → JumpOffset
j_offset s = jump_at (s.funct7 / 2 ^ 6 * 2 ^ 19 + s.rs1 * 2 ^ 14 + s.funct3 * 2 ^ 11 + s.rs2 % 2 * 2 ^ 10 + s.funct7 % 2 ^ 6 * 2 ^ 4 + s.rs2 / 2)

-- ---- the tables read backwards

abbrev pub condition_at : ℕ → Option Condition
condition_at f3 =
    if f3 == 0b000 then Some Beq else
    if f3 == 0b001 then Some Bne else
    if f3 == 0b100 then Some Blt else
    if f3 == 0b101 then Some Bge else
    if f3 == 0b110 then Some Bltu else
    if f3 == 0b111 then Some Bgeu else None

abbrev pub load_at : ℕ → Option LoadKind
load_at f3 =
    if f3 == 0b000 then Some Lb else
    if f3 == 0b001 then Some Lh else
    if f3 == 0b010 then Some Lw else
    if f3 == 0b100 then Some Lbu else
    if f3 == 0b101 then Some Lhu else None

abbrev pub store_at : ℕ → Option StoreKind
store_at f3 =
    if f3 == 0b000 then Some Sb else
    if f3 == 0b001 then Some Sh else
    if f3 == 0b010 then Some Sw else None

abbrev pub immediate_operation_at : ℕ → Option ImmediateOperation
immediate_operation_at f3 =
    if f3 == 0b000 then Some Addi else
    if f3 == 0b010 then Some Slti else
    if f3 == 0b011 then Some Sltiu else
    if f3 == 0b100 then Some Xori else
    if f3 == 0b110 then Some Ori else
    if f3 == 0b111 then Some Andi else None

abbrev pub shift_at : ℕ → ℕ → Option Shift
shift_at f7 f3 =
    if f7 == 0b0000000 && f3 == 0b001 then Some Slli else
    if f7 == 0b0000000 && f3 == 0b101 then Some Srli else
    if f7 == 0b0100000 && f3 == 0b101 then Some Srai else None

abbrev pub operation_at : ℕ → ℕ → Option Operation
operation_at f7 f3 =
    if f7 == 0b0000000 && f3 == 0b000 then Some Add else
    if f7 == 0b0100000 && f3 == 0b000 then Some Sub else
    if f7 == 0b0000000 && f3 == 0b001 then Some Sll else
    if f7 == 0b0000000 && f3 == 0b010 then Some Slt else
    if f7 == 0b0000000 && f3 == 0b011 then Some Sltu else
    if f7 == 0b0000000 && f3 == 0b100 then Some Xor else
    if f7 == 0b0000000 && f3 == 0b101 then Some Srl else
    if f7 == 0b0100000 && f3 == 0b101 then Some Sra else
    if f7 == 0b0000000 && f3 == 0b110 then Some Or else
    if f7 == 0b0000000 && f3 == 0b111 then Some And else
    if f7 == 0b0000001 && f3 == 0b000 then Some Mul else
    if f7 == 0b0000001 && f3 == 0b001 then Some Mulh else
    if f7 == 0b0000001 && f3 == 0b010 then Some Mulhsu else
    if f7 == 0b0000001 && f3 == 0b011 then Some Mulhu else
    if f7 == 0b0000001 && f3 == 0b100 then Some Div else
    if f7 == 0b0000001 && f3 == 0b101 then Some Divu else
    if f7 == 0b0000001 && f3 == 0b110 then Some Rem else
    if f7 == 0b0000001 && f3 == 0b111 then Some Remu else None

-- ---- the instruction of slots, by opcode

abbrev pub jalr_of : Slots → Option Instr
jalr_of s = if s.funct3 == 0b000 then Some (Jalr (register_at s.rd) (register_at s.rs1) (i_immediate s)) else None

abbrev pub branch_of : Slots → Option Instr
branch_of s = option_map (λ condition. Branch condition (register_at s.rs1) (register_at s.rs2) (b_offset s)) (condition_at s.funct3)

abbrev pub load_of : Slots → Option Instr
load_of s = option_map (λ kind. Load kind (register_at s.rd) (register_at s.rs1) (i_immediate s)) (load_at s.funct3)

abbrev pub store_of : Slots → Option Instr
store_of s = option_map (λ kind. Store kind (register_at s.rs2) (register_at s.rs1) (s_immediate s)) (store_at s.funct3)

abbrev pub compute_immediate_of : Slots → Option Instr
compute_immediate_of s =
    option_map (λ operation. ComputeImmediate operation (register_at s.rd) (register_at s.rs1) (i_immediate s)) (immediate_operation_at s.funct3)

abbrev pub shift_of : Slots → Option Instr
shift_of s =
    option_map (λ shift. ShiftImmediate shift (register_at s.rd) (register_at s.rs1) (amount_at s.rs2)) (shift_at s.funct7 s.funct3)

abbrev pub immediate_of : Slots → Option Instr
immediate_of s = if s.funct3 % 4 == 0b01 then shift_of s else compute_immediate_of s

abbrev pub compute_of : Slots → Option Instr
compute_of s =
    option_map (λ operation. Compute operation (register_at s.rd) (register_at s.rs1) (register_at s.rs2)) (operation_at s.funct7 s.funct3)

abbrev pub fence_of : Slots → Option Instr
fence_of s = if s.funct3 == 0b000 then Some (Fence (register_at s.rd) (register_at s.rs1) (i_immediate s)) else None

-- the 25 bits above the opcode
abbrev pub above_opcode : Slots → ℕ
above_opcode s = s.funct7 * 2 ^ 18 + s.rs2 * 2 ^ 13 + s.rs1 * 2 ^ 8 + s.funct3 * 2 ^ 5 + s.rd

abbrev pub system_of : Slots → Option Instr
system_of s = if above_opcode s == 0 then Some Ecall else if above_opcode s == 2 ^ 13 then Some Ebreak else None

unfoldable pub instr_of : Slots → Option Instr
instr_of s =
    if s.opcode == 0b0110111 then Some (Lui (register_at s.rd) (u_immediate s)) else
    if s.opcode == 0b0010111 then Some (Auipc (register_at s.rd) (u_immediate s)) else
    if s.opcode == 0b1101111 then Some (Jal (register_at s.rd) (j_offset s)) else
    if s.opcode == 0b1100111 then jalr_of s else
    if s.opcode == 0b1100011 then branch_of s else
    if s.opcode == 0b0000011 then load_of s else
    if s.opcode == 0b0100011 then store_of s else
    if s.opcode == 0b0010011 then immediate_of s else
    if s.opcode == 0b0110011 then compute_of s else
    if s.opcode == 0b0001111 then fence_of s else
    if s.opcode == 0b1110011 then system_of s else None
