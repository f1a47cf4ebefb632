-- The instruction formats: RISC-V Unprivileged ISA, 2.2 "Base Instruction Formats" and 2.3 "Immediate Encoding Variants"
use Rattle.std.specs.Prelude.{ℕ, ◌+◌, ◌*◌, ◌^◌, ℤ}
use Rattle.rv_isa.specs.Number.{residue, bits}

-- funct7 31:25, rs2 24:20, rs1 19:15, funct3 14:12, rd 11:7, opcode 6:0
abbrev pub r_word : ℕ → ℕ → ℕ → ℕ → ℕ → ℕ → ℕ
r_word funct7 rs2 rs1 funct3 rd opcode =
    funct7 * 2 ^ 25 + rs2 * 2 ^ 20 + rs1 * 2 ^ 15 + funct3 * 2 ^ 12 + rd * 2 ^ 7 + opcode

-- imm[11:0] 31:20, rs1 19:15, funct3 14:12, rd 11:7, opcode 6:0
abbrev pub i_word : ℤ → ℕ → ℕ → ℕ → ℕ → ℕ
i_word immediate rs1 funct3 rd opcode =
    residue 12 immediate * 2 ^ 20 + rs1 * 2 ^ 15 + funct3 * 2 ^ 12 + rd * 2 ^ 7 + opcode

-- imm[11:5] 31:25, rs2 24:20, rs1 19:15, funct3 14:12, imm[4:0] 11:7, opcode 6:0
abbrev pub s_word : ℤ → ℕ → ℕ → ℕ → ℕ → ℕ
s_word immediate rs2 rs1 funct3 opcode =
    let n = residue 12 immediate in
    bits n 5 7 * 2 ^ 25 + rs2 * 2 ^ 20 + rs1 * 2 ^ 15 + funct3 * 2 ^ 12 + bits n 0 5 * 2 ^ 7 + opcode

-- imm[12] 31, imm[10:5] 30:25, rs2 24:20, rs1 19:15, funct3 14:12, imm[4:1] 11:8, imm[11] 7, opcode 6:0
abbrev pub b_word : ℤ → ℕ → ℕ → ℕ → ℕ → ℕ
b_word immediate rs2 rs1 funct3 opcode =
    let n = residue 13 immediate in
    bits n 12 1 * 2 ^ 31 + bits n 5 6 * 2 ^ 25 + rs2 * 2 ^ 20 + rs1 * 2 ^ 15 + funct3 * 2 ^ 12 + bits n 1 4 * 2 ^ 8 + bits n 11 1 * 2 ^ 7 + opcode

-- imm[31:12] 31:12, rd 11:7, opcode 6:0
abbrev pub u_word : ℕ → ℕ → ℕ → ℕ
u_word immediate rd opcode = immediate * 2 ^ 12 + rd * 2 ^ 7 + opcode

-- imm[20] 31, imm[10:1] 30:21, imm[11] 20, imm[19:12] 19:12, rd 11:7, opcode 6:0
abbrev pub j_word : ℤ → ℕ → ℕ → ℕ
j_word immediate rd opcode =
    let n = residue 21 immediate in
    bits n 20 1 * 2 ^ 31 + bits n 1 10 * 2 ^ 21 + bits n 11 1 * 2 ^ 20 + bits n 12 8 * 2 ^ 12 + rd * 2 ^ 7 + opcode
