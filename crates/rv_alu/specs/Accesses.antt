-- Loads and stores without their memory: RISC-V Unprivileged ISA, 2.6 "Load and Store Instructions"
use Rattle.std.specs.Prelude.{ℕ, pos, ◌+ℤ◌, ◌+◌, ◌-◌, ◌^◌, nat_lt, if◌then◌else◌}
use Rattle.rv_isa.specs.Number.{wrapped}
use Rattle.rv_isa.specs.declared.operands.Immediate.{Immediate}
use Rattle.rv_isa.specs.declared.instruction.LoadKind.{LoadKind}
use Rattle.rv_isa.specs.declared.instruction.LoadKind.TheVariants.{Lb, Lh, Lw, Lbu, Lhu}
use Rattle.rv_isa.specs.declared.instruction.StoreKind.{StoreKind}
use Rattle.rv_isa.specs.declared.instruction.StoreKind.TheVariants.{Sb, Sh, Sw}

-- the address of a load or a store: rs1 plus the offset, modulo 2^32
abbrev pub address_from : ℕ → Immediate → ℕ
address_from base offset = wrapped (pos base +ℤ offset.value)

-- how many bytes a load reads
abbrev pub width_of : LoadKind → ℕ
width_of Lb = 1
width_of Lh = 2
width_of Lw = 4
width_of Lbu = 1
width_of Lhu = 2

-- how many bytes a store writes
abbrev pub store_width : StoreKind → ℕ
store_width Sb = 1
store_width Sh = 2
store_width Sw = 4

-- what a load writes to rd when it reads the number n: LB and LH sign-extend it, LBU and LHU
-- zero-extend it
abbrev pub extended_of : LoadKind → ℕ → ℕ
extended_of Lb n = if nat_lt n (2 ^ 7) then n else (n + (2 ^ 32 - 2 ^ 8))
extended_of Lh n = if nat_lt n (2 ^ 15) then n else (n + (2 ^ 32 - 2 ^ 16))
extended_of Lw n = n
extended_of Lbu n = n
extended_of Lhu n = n
