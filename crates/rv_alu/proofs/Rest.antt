-- The remainder is what the quotient leaves
use Rattle.std.proofs.Common.{◌≡◌, ℤ, ◌+ℤ◌, ◌-ℤ◌, ◌*ℤ◌, int_div, int_rem, arith}
use Rattle.std.proofs.lemmas.Int.{quot-rem, ints}
use Rattle.std.proofs.Math.IntN.{*ℤ_comm}

moved : (x r a : ℤ) → x +ℤ r ≡ a → r ≡ a -ℤ x
moved x r a e = omega (arith, ints)

pub rem_is_rest : (a d : ℤ) → int_rem a d ≡ a -ℤ (d *ℤ int_div a d)
rem_is_rest a d =
    moved (d *ℤ int_div a d) (int_rem a d) a (rw (*ℤ_comm d (int_div a d)) (quot-rem a d))
