-- The result of an operation, before it is taken modulo 2^32: RISC-V Unprivileged ISA, 2.4 "Integer
-- Computational Instructions", 7.1 "Multiplication Operations" and 7.2 "Division Operations"
use Rattle.std.specs.Prelude.{ℕ, ℤ, pos, Bool, ◌+ℤ◌, ◌-ℤ◌, ◌*ℤ◌, ◌-◌, ◌*◌, ◌/◌, ◌%◌, ◌^◌, ◌==◌, nat_lt, int_lt, int_div, bit_and, bit_or, bit_xor, if◌then◌else◌}
use Rattle.std.specs.Int.{int_div_euclid}
use Rattle.rv_isa.specs.Number.{signed, wrapped}
use Rattle.rv_isa.specs.declared.instruction.Operation.{Operation}
use Rattle.rv_isa.specs.declared.instruction.Operation.TheVariants as operation
use Rattle.rv_isa.specs.declared.instruction.ImmediateOperation.{ImmediateOperation}
use Rattle.rv_isa.specs.declared.instruction.ImmediateOperation.TheVariants as immediate
use Rattle.rv_isa.specs.declared.instruction.Shift.{Shift}
use Rattle.rv_isa.specs.declared.instruction.Shift.TheVariants as shift

-- z / n rounded down, if n is not 0
abbrev pub floor : ℤ → ℕ → ℤ
floor z n = int_div_euclid z (pos n)

-- 1 if the test holds, 0 if not
abbrev pub flag : Bool → ℤ
flag test = if test then pos 1 else pos 0

-- the result of an operation when rs1 holds a and rs2 holds b; int_div rounds towards zero
abbrev pub value_of : Operation → ℕ → ℕ → ℤ
value_of operation.Add a b = pos a +ℤ pos b
value_of operation.Sub a b = pos a -ℤ pos b
value_of operation.Sll a b = pos (a * 2 ^ (b % 32))
value_of operation.Slt a b = flag (int_lt (signed a) (signed b))
value_of operation.Sltu a b = flag (nat_lt a b)
value_of operation.Xor a b = pos (bit_xor a b)
value_of operation.Srl a b = pos (a / 2 ^ (b % 32))
value_of operation.Sra a b = floor (signed a) (2 ^ (b % 32))
value_of operation.Or a b = pos (bit_or a b)
value_of operation.And a b = pos (bit_and a b)
value_of operation.Mul a b = pos (a * b)
value_of operation.Mulh a b = floor (signed a *ℤ signed b) (2 ^ 32)
value_of operation.Mulhsu a b = floor (signed a *ℤ pos b) (2 ^ 32)
value_of operation.Mulhu a b = floor (pos (a * b)) (2 ^ 32)
value_of operation.Div a b = if b == 0 then pos (2 ^ 32 - 1) else int_div (signed a) (signed b)
value_of operation.Divu a b = if b == 0 then pos (2 ^ 32 - 1) else pos (a / b)
value_of operation.Rem a b =
    if b == 0 then pos a else (signed a -ℤ (signed b *ℤ int_div (signed a) (signed b)))
value_of operation.Remu a b = if b == 0 then pos a else pos (a % b)

-- the result of an operation on rs1, which holds a, and the sign-extended immediate m
abbrev pub immediate_value : ImmediateOperation → ℕ → ℤ → ℤ
immediate_value immediate.Addi a m = pos a +ℤ m
immediate_value immediate.Slti a m = flag (int_lt (signed a) m)
immediate_value immediate.Sltiu a m = flag (nat_lt a (wrapped m))
immediate_value immediate.Xori a m = pos (bit_xor a (wrapped m))
immediate_value immediate.Ori a m = pos (bit_or a (wrapped m))
immediate_value immediate.Andi a m = pos (bit_and a (wrapped m))

-- the result of shifting rs1, which holds a, by the constant k
abbrev pub shift_value : Shift → ℕ → ℕ → ℤ
shift_value shift.Slli a k = pos (a * 2 ^ k)
shift_value shift.Srli a k = pos (a / 2 ^ k)
shift_value shift.Srai a k = floor (signed a) (2 ^ k)
