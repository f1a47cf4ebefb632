-- The ranges of the operands of an instruction: RISC-V Unprivileged ISA, 2.2 and 2.3
use Rattle.std.specs.Prelude.{◌≡◌, ℕ, ◌<◌, ◌^◌, ℤ, pos, negsuc, ◌≤ℤ◌}
use Rattle.rv_isa.specs.Number.{residue}

-- one of x0 to x31
abbrev pub IsRegister : ℕ → Type 0
IsRegister n = n < 32

-- -2048 to 2047
abbrev pub IsImmediate : ℤ → Type 0
IsImmediate z = (negsuc 2047 ≤ℤ z) × (z ≤ℤ pos 2047)

-- -4096 to 4094, and even
abbrev pub IsBranchOffset : ℤ → Type 0
IsBranchOffset z = (negsuc 4095 ≤ℤ z) × (z ≤ℤ pos 4094) × (residue 1 z ≡ 0)

-- -1048576 to 1048574, and even
abbrev pub IsJumpOffset : ℤ → Type 0
IsJumpOffset z = (negsuc 1048575 ≤ℤ z) × (z ≤ℤ pos 1048574) × (residue 1 z ≡ 0)

-- imm[31:12]
abbrev pub IsUpper : ℕ → Type 0
IsUpper n = n < 2 ^ 20

-- shamt[4:0]
abbrev pub IsShiftAmount : ℕ → Type 0
IsShiftAmount n = n < 32
