-- The words of RV32IM: RISC-V Unprivileged ISA, chapter 24 "RV32/64G Instruction Set Listings"
use Rattle.std.specs.Prelude.{ℕ}
use Rattle.rv_isa.specs.Format.{r_word, i_word, s_word, b_word, u_word, j_word}
use Rattle.rv_isa.specs.declared.instruction.Condition.{Condition}
use Rattle.rv_isa.specs.declared.instruction.Condition.TheVariants.{Beq, Bne, Blt, Bge, Bltu, Bgeu}
use Rattle.rv_isa.specs.declared.instruction.LoadKind.{LoadKind}
use Rattle.rv_isa.specs.declared.instruction.LoadKind.TheVariants.{Lb, Lh, Lw, Lbu, Lhu}
use Rattle.rv_isa.specs.declared.instruction.StoreKind.{StoreKind}
use Rattle.rv_isa.specs.declared.instruction.StoreKind.TheVariants.{Sb, Sh, Sw}
use Rattle.rv_isa.specs.declared.instruction.ImmediateOperation.{ImmediateOperation}
use Rattle.rv_isa.specs.declared.instruction.ImmediateOperation.TheVariants.{Addi, Slti, Sltiu, Xori, Ori, Andi}
use Rattle.rv_isa.specs.declared.instruction.Shift.{Shift}
use Rattle.rv_isa.specs.declared.instruction.Shift.TheVariants.{Slli, Srli, Srai}
use Rattle.rv_isa.specs.declared.instruction.Operation.{Operation}
use Rattle.rv_isa.specs.declared.instruction.Operation.TheVariants.{Add, Sub, Sll, Slt, Sltu, Xor, Srl, Sra, Or, And, Mul, Mulh, Mulhsu, Mulhu, Div, Divu, Rem, Remu}
use Rattle.rv_isa.specs.declared.instruction.Instr.{Instr}
use Rattle.rv_isa.specs.declared.instruction.Instr.TheVariants.{Lui, Auipc, Jal, Jalr, Branch, Load, Store, ComputeImmediate, ShiftImmediate, Compute, Fence, Ecall, Ebreak}

-- funct3 of a branch
abbrev pub condition_funct3 : Condition → ℕ
condition_funct3 Beq = 0b000
condition_funct3 Bne = 0b001
condition_funct3 Blt = 0b100
condition_funct3 Bge = 0b101
condition_funct3 Bltu = 0b110
condition_funct3 Bgeu = 0b111

-- funct3 of a load
abbrev pub load_funct3 : LoadKind → ℕ
load_funct3 Lb = 0b000
load_funct3 Lh = 0b001
load_funct3 Lw = 0b010
load_funct3 Lbu = 0b100
load_funct3 Lhu = 0b101

-- funct3 of a store
abbrev pub store_funct3 : StoreKind → ℕ
store_funct3 Sb = 0b000
store_funct3 Sh = 0b001
store_funct3 Sw = 0b010

-- funct3 of an operation on a register and an immediate
abbrev pub immediate_funct3 : ImmediateOperation → ℕ
immediate_funct3 Addi = 0b000
immediate_funct3 Slti = 0b010
immediate_funct3 Sltiu = 0b011
immediate_funct3 Xori = 0b100
immediate_funct3 Ori = 0b110
immediate_funct3 Andi = 0b111

-- funct7 and funct3 of a shift by a fixed amount
abbrev pub shift_functs : Shift → ℕ × ℕ
shift_functs Slli = (0b0000000, 0b001)
shift_functs Srli = (0b0000000, 0b101)
shift_functs Srai = (0b0100000, 0b101)

-- funct7 and funct3 of an operation on two registers
abbrev pub operation_functs : Operation → ℕ × ℕ
operation_functs Add = (0b0000000, 0b000)
operation_functs Sub = (0b0100000, 0b000)
operation_functs Sll = (0b0000000, 0b001)
operation_functs Slt = (0b0000000, 0b010)
operation_functs Sltu = (0b0000000, 0b011)
operation_functs Xor = (0b0000000, 0b100)
operation_functs Srl = (0b0000000, 0b101)
operation_functs Sra = (0b0100000, 0b101)
operation_functs Or = (0b0000000, 0b110)
operation_functs And = (0b0000000, 0b111)
operation_functs Mul = (0b0000001, 0b000)
operation_functs Mulh = (0b0000001, 0b001)
operation_functs Mulhsu = (0b0000001, 0b010)
operation_functs Mulhu = (0b0000001, 0b011)
operation_functs Div = (0b0000001, 0b100)
operation_functs Divu = (0b0000001, 0b101)
operation_functs Rem = (0b0000001, 0b110)
operation_functs Remu = (0b0000001, 0b111)

-- the word of an instruction; a word that no instruction has is illegal
abbrev pub word_of : Instr → ℕ
word_of (Lui rd immediate) = u_word immediate.value rd.number 0b0110111
word_of (Auipc rd immediate) = u_word immediate.value rd.number 0b0010111
word_of (Jal rd offset) = j_word offset.value rd.number 0b1101111
word_of (Jalr rd base offset) = i_word offset.value base.number 0b000 rd.number 0b1100111
word_of (Branch condition left right offset) = b_word offset.value right.number left.number (condition_funct3 condition) 0b1100011
word_of (Load kind rd base offset) = i_word offset.value base.number (load_funct3 kind) rd.number 0b0000011
word_of (Store kind source base offset) = s_word offset.value source.number base.number (store_funct3 kind) 0b0100011
word_of (ComputeImmediate operation rd source immediate) = i_word immediate.value source.number (immediate_funct3 operation) rd.number 0b0010011
word_of (ShiftImmediate shift rd source amount) = r_word (shift_functs shift).0 amount.value source.number (shift_functs shift).1 rd.number 0b0010011
word_of (Compute operation rd left right) = r_word (operation_functs operation).0 right.number left.number (operation_functs operation).1 rd.number 0b0110011
word_of (Fence rd source immediate) = i_word immediate.value source.number 0b000 rd.number 0b0001111
word_of Ecall = 0x00000073
word_of Ebreak = 0x00100073
