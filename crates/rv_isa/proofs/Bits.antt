-- The bits of an offset, as a register holds it, are those of its two's complement.
use Rattle.std.proofs.Common.{◌≡◌, ℕ, ◌*◌, ◌/◌, ◌%◌, ◌^◌, ℤ, pos, negsuc, arith, bit_and, to_z, of_z, w32}
use Rattle.std.proofs.lemmas.Int.{ints}
use Rattle.std.proofs.lemmas.Nat.{and_mask}
use Rattle.rv_isa.specs.Number.{residue, bits}
use Rattle.rv_isa.specs.Ranges.{IsBranchOffset, IsJumpOffset}

branch_low : (z : ℤ) (n : ℕ) → IsBranchOffset z → n ≡ of_z w32 (to_z w32 (of_z w32 z)) → n % 2 ^ 13 ≡ residue 13 z
branch_low (pos a) n h e = omega (arith, ints)
branch_low (negsuc a) n h e = omega (arith, ints)

jump_low : (z : ℤ) (n : ℕ) → IsJumpOffset z → n ≡ of_z w32 (to_z w32 (of_z w32 z)) → n % 2 ^ 21 ≡ residue 21 z
jump_low (pos a) n h e = omega (arith, ints)
jump_low (negsuc a) n h e = omega (arith, ints)

-- the fields of a branch's offset
pub record BranchFields (n r : ℕ) : Type 0 where
  pub twelve : bit_and (n / 2 ^ 12) 1 * 2 ^ 31 % 2 ^ 32 ≡ bits r 12 1 * 2 ^ 31
  pub ten_to_five : bit_and (n / 2 ^ 5) 63 * 2 ^ 25 % 2 ^ 32 ≡ bits r 5 6 * 2 ^ 25
  pub four_to_one : bit_and (n / 2) 15 * 2 ^ 8 % 2 ^ 32 ≡ bits r 1 4 * 2 ^ 8
  pub eleven : bit_and (n / 2 ^ 11) 1 * 2 ^ 7 % 2 ^ 32 ≡ bits r 11 1 * 2 ^ 7

pub branch_fields : (z : ℤ) (n : ℕ) → IsBranchOffset z → n ≡ of_z w32 (to_z w32 (of_z w32 z)) → BranchFields n (residue 13 z)
branch_fields z n h e =
    let l : n % 2 ^ 13 ≡ residue 13 z = branch_low z n h e in
    record { twelve = omega (arith, and_mask (n / 2 ^ 12) 1); ten_to_five = omega (arith, and_mask (n / 2 ^ 5) 6); four_to_one = omega (arith, and_mask (n / 2) 4); eleven = omega (arith, and_mask (n / 2 ^ 11) 1) }

-- the fields of a jump's offset
pub record JumpFields (n r : ℕ) : Type 0 where
  pub twenty : bit_and (n / 2 ^ 20) 1 * 2 ^ 31 % 2 ^ 32 ≡ bits r 20 1 * 2 ^ 31
  pub ten_to_one : bit_and (n / 2) 1023 * 2 ^ 21 % 2 ^ 32 ≡ bits r 1 10 * 2 ^ 21
  pub eleven : bit_and (n / 2 ^ 11) 1 * 2 ^ 20 % 2 ^ 32 ≡ bits r 11 1 * 2 ^ 20
  pub nineteen_to_twelve : bit_and (n / 2 ^ 12) 255 * 2 ^ 12 % 2 ^ 32 ≡ bits r 12 8 * 2 ^ 12

pub jump_fields : (z : ℤ) (n : ℕ) → IsJumpOffset z → n ≡ of_z w32 (to_z w32 (of_z w32 z)) → JumpFields n (residue 21 z)
jump_fields z n h e =
    let l : n % 2 ^ 21 ≡ residue 21 z = jump_low z n h e in
    record { twenty = omega (arith, and_mask (n / 2 ^ 20) 1); ten_to_one = omega (arith, and_mask (n / 2) 10); eleven = omega (arith, and_mask (n / 2 ^ 11) 1); nineteen_to_twelve = omega (arith, and_mask (n / 2 ^ 12) 8) }
