-- What an instruction does to the registers and the pc: RISC-V Unprivileged ISA, 2.4 "Integer Computational
-- Instructions", 2.5 "Control Transfer Instructions" and 2.7 "Memory Ordering Instructions"
use Rattle.std.specs.Prelude.{ℕ, ℤ, pos, Bool, true, false, List, Option, Some, None, ◌+ℤ◌, ◌*◌, ◌/◌, ◌%◌, ◌^◌, ◌==◌, if◌then◌else◌, slice_index}
use Rattle.rv_isa.specs.Number.{wrapped}
use Rattle.rv_isa.specs.Registers.{written}
use Rattle.rv_isa.specs.declared.register.Reg.{Reg}
use Rattle.rv_isa.specs.declared.instruction.Instr.{Instr}
use Rattle.rv_isa.specs.declared.instruction.Instr.TheVariants.{Lui, Auipc, Jal, Jalr, Branch, Load, Store, ComputeImmediate, ShiftImmediate, Compute, Fence, Ecall, Ebreak}
use Rattle.rv_alu.specs.Operations.{value_of, immediate_value, shift_value}
use Rattle.rv_alu.specs.Branches.{is_taken}

-- what a register holds
abbrev pub register_value : List ℕ → Reg → ℕ
register_value registers register = slice_index registers register.number

-- the registers after z, modulo 2^32, is written to rd
abbrev pub with_register : List ℕ → Reg → ℤ → List ℕ
with_register registers rd z = written registers rd.number (wrapped z)

-- goes on to the next instruction
abbrev pub onward : List ℕ → ℕ → Option (List ℕ × ℕ)
onward registers pc = Some (registers, wrapped (pos pc +ℤ pos 4))

-- goes to the target; None if it is not a multiple of 4: an instruction-address-misaligned exception
abbrev pub jumped : List ℕ → ℕ → Option (List ℕ × ℕ)
jumped registers target = if target % 4 == 0 then Some (registers, target) else None

-- the registers and the pc after an instruction at pc; None if its target is misaligned. What a load, a store,
-- ECALL and EBREAK do is not defined here: for them this only goes on to the next instruction
abbrev pub effect_of : Instr → List ℕ → ℕ → Option (List ℕ × ℕ)
effect_of (Lui rd immediate) registers pc = onward (with_register registers rd (pos (immediate.value * 2 ^ 12))) pc
effect_of (Auipc rd immediate) registers pc =
    onward (with_register registers rd (pos pc +ℤ pos (immediate.value * 2 ^ 12))) pc
effect_of (Jal rd offset) registers pc =
    jumped (with_register registers rd (pos pc +ℤ pos 4)) (wrapped (pos pc +ℤ offset.value))
effect_of (Jalr rd base offset) registers pc =
    jumped (with_register registers rd (pos pc +ℤ pos 4)) (wrapped (pos (register_value registers base) +ℤ offset.value) / 2 * 2)
effect_of (Branch condition left right offset) registers pc =
    if is_taken condition (register_value registers left) (register_value registers right)
    then jumped registers (wrapped (pos pc +ℤ offset.value))
    else onward registers pc
effect_of (ComputeImmediate operation rd source immediate) registers pc =
    onward (with_register registers rd (immediate_value operation (register_value registers source) immediate.value)) pc
effect_of (ShiftImmediate shift rd source amount) registers pc =
    onward (with_register registers rd (shift_value shift (register_value registers source) amount.value)) pc
effect_of (Compute operation rd left right) registers pc =
    onward (with_register registers rd (value_of operation (register_value registers left) (register_value registers right))) pc
effect_of (Fence rd source immediate) registers pc = onward registers pc
effect_of (Load kind rd base offset) registers pc = onward registers pc
effect_of (Store kind source base offset) registers pc = onward registers pc
effect_of Ecall registers pc = onward registers pc
effect_of Ebreak registers pc = onward registers pc

-- whether effect_of is all that an instruction does: it is not a load, a store, ECALL or EBREAK
abbrev pub is_plain : Instr → Bool
is_plain (Load kind rd base offset) = false
is_plain (Store kind source base offset) = false
is_plain Ecall = false
is_plain Ebreak = false
is_plain _ = true
