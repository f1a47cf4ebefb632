-- A mask of one bit, compared with that bit as a quotient.
use Rattle.std.proofs.Common.{◌≡◌, ℕ, ◌/◌, ◌%◌, ◌*◌, not, nat_eq, bit_and, arith}
use Rattle.std.proofs.lemmas.Nat.Bits.{and_pow}
use Rattle.std.proofs.lemmas.Bool.Decides.{nat_tests}

pub second_bit : (n : ℕ) → not (nat_eq (bit_and n 2) 0) ≡ nat_eq (n / 2 % 2) 1
second_bit n =
    let mask : bit_and n 2 ≡ n / 2 % 2 * 2 = and_pow n 1 in
    rw mask (grind (arith, nat_tests))

pub third_bit : (n : ℕ) → not (nat_eq (bit_and n 4) 0) ≡ nat_eq (n / 4 % 2) 1
third_bit n =
    let mask : bit_and n 4 ≡ n / 4 % 2 * 4 = and_pow n 2 in
    rw mask (grind (arith, nat_tests))
