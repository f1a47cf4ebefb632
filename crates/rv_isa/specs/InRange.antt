-- Facts, no definitions: a number cut to so many bits is an operand of that width. `Decoding` makes operands with them.
use Rattle.std.specs.Prelude.{ℕ, ◌*◌, ◌%◌, ◌^◌}
use Rattle.std.proofs.Common.{arith}
use Rattle.std.proofs.Math.Nat.{mod-lt}
use Rattle.std.proofs.lemmas.Nat.{pow_pos}
use Rattle.std.proofs.lemmas.Int.{ints}
use Rattle.rv_isa.specs.Number.{extended}
use Rattle.rv_isa.specs.Ranges.{IsRegister, IsImmediate, IsBranchOffset, IsJumpOffset, IsUpper, IsShiftAmount}

pub register_small : (n : ℕ) → IsRegister (n % 2 ^ 5)
register_small n = mod-lt n (pow_pos 5)

pub amount_small : (n : ℕ) → IsShiftAmount (n % 2 ^ 5)
amount_small n = mod-lt n (pow_pos 5)

pub upper_small : (n : ℕ) → IsUpper (n % 2 ^ 20)
upper_small n = mod-lt n (pow_pos 20)

pub immediate_small : (n : ℕ) → IsImmediate (extended 12 (n % 2 ^ 12))
immediate_small n = grind (arith, ints)

pub branch_small : (half : ℕ) → IsBranchOffset (extended 13 (half % 2 ^ 12 * 2))
branch_small half = grind (arith, ints)

pub jump_small : (half : ℕ) → IsJumpOffset (extended 21 (half % 2 ^ 20 * 2))
jump_small half = grind (arith, ints)
