-- The operands that hold numbers of their ranges.
use Rattle.std.proofs.Common.{◌≡◌, ℕ, ◌+◌, ◌/◌, ◌%◌, ◌^◌, ◌<◌, ℤ, arith, sym, ◌∙◌}
use Rattle.std.proofs.lemmas.Int.{ints}
use Rattle.rv_isa.specs.Number.{residue}
use Rattle.rv_isa.specs.Ranges.{IsImmediate, IsBranchOffset, IsJumpOffset}
use Rattle.rv_isa.specs.Decoding.{immediate_at, branch_at, jump_at, upper_at}
use Rattle.rv_isa.specs.declared.operands.Immediate.{Immediate}
use Rattle.rv_isa.specs.declared.operands.BranchOffset.{BranchOffset}
use Rattle.rv_isa.specs.declared.operands.JumpOffset.{JumpOffset}
use Rattle.rv_isa.specs.declared.operands.Upper.{Upper}
use Rattle.rv_isa.proofs.Again.{immediate_value, branch_value, jump_value}
use Rattle.rv_isa.proofs.Same.{same_immediate, same_branch, same_jump, same_upper}
use Rattle.rv_names.specs.Statements.{high_of}

-- the operand that holds a number of its range
pub held_immediate_at : (m : Immediate) (z : ℤ) → m.value ≡ z → IsImmediate z → m ≡ immediate_at (residue 12 z)
held_immediate_at m z e h = same_immediate m (immediate_at (residue 12 z)) (e ∙ sym (immediate_value z h))

pub held_branch_at : (m : BranchOffset) (z : ℤ) → m.value ≡ z → IsBranchOffset z → m ≡ branch_at (residue 13 z / 2)
held_branch_at m z e h = same_branch m (branch_at (residue 13 z / 2)) (e ∙ sym (branch_value z h))

pub held_jump_at : (m : JumpOffset) (z : ℤ) → m.value ≡ z → IsJumpOffset z → m ≡ jump_at (residue 21 z / 2)
held_jump_at m z e h = same_jump m (jump_at (residue 21 z / 2)) (e ∙ sym (jump_value z h))

-- the operand that holds the bits above the low part
pub high_again : (m : Upper) (v : ℕ) → v < 2 ^ 32 → m.value ≡ (v + 2048) / 2 ^ 12 % 2 ^ 20 → m ≡ upper_at (high_of v)
high_again m v small e = same_upper m (upper_at (high_of v)) (grind (arith, ints))
