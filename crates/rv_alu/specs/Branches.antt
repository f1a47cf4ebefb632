-- When a branch is taken: RISC-V Unprivileged ISA, 2.5 "Control Transfer Instructions"
use Rattle.std.specs.Prelude.{ℕ, Bool, not, ◌==◌, nat_lt, nat_le, int_lt, int_le}
use Rattle.rv_isa.specs.Number.{signed}
use Rattle.rv_isa.specs.declared.instruction.Condition.{Condition}
use Rattle.rv_isa.specs.declared.instruction.Condition.TheVariants.{Beq, Bne, Blt, Bge, Bltu, Bgeu}

-- whether a branch is taken when rs1 holds a and rs2 holds b
abbrev pub is_taken : Condition → ℕ → ℕ → Bool
is_taken Beq a b = a == b
is_taken Bne a b = not (a == b)
is_taken Blt a b = int_lt (signed a) (signed b)
is_taken Bge a b = int_le (signed b) (signed a)
is_taken Bltu a b = nat_lt a b
is_taken Bgeu a b = nat_le b a
