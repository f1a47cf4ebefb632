-- Signed numbers by the 32 bits that hold them.
use Rattle.std.proofs.Common.{◌≡◌, ℕ, ◌+◌, ◌-◌, ◌*◌, ◌%◌, ◌^◌, ◌<◌, ℤ, arith, to_z, of_z, w32}
use Rattle.std.proofs.lemmas.Int.{ints}
use lib.Signed.{shr_z}
use Rattle.rv_isa.specs.Number.{extended}

-- A shift to the top of 32 bits and back copies the top bit of the number that it shifts.
pub shifted_12 : (n : ℕ) (z : ℤ) → n < 2 ^ 12 → z ≡ to_z w32 (n * 2 ^ 20 % 2 ^ 32) → to_z w32 (of_z w32 (shr_z (to_z w32 (of_z w32 z)) (2 ^ 20))) ≡ extended 12 (n % 2 ^ 12)
shifted_12 n z h e = grind (arith, ints)

-- The offset of a branch and of a jump, by its sign and the bits between the sign and bit 0.
pub offset_13 : (sign middle : ℕ) (z : ℤ) → sign < 2 → middle < 2 ^ 11 → z ≡ to_z w32 (sign * (2 ^ 32 - 2 ^ 12) + middle * 2) → to_z w32 (of_z w32 z) ≡ extended 13 ((sign * 2 ^ 11 + middle) % 2 ^ 12 * 2)
offset_13 sign middle z s m e = grind (arith, ints)

pub offset_21 : (sign middle : ℕ) (z : ℤ) → sign < 2 → middle < 2 ^ 19 → z ≡ to_z w32 (sign * (2 ^ 32 - 2 ^ 20) + middle * 2) → to_z w32 (of_z w32 z) ≡ extended 21 ((sign * 2 ^ 19 + middle) % 2 ^ 20 * 2)
offset_21 sign middle z s m e = grind (arith, ints)
