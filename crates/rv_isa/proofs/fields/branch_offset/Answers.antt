use Rattle.std.proofs.Common.{◌≡◌, ℕ, ◌+◌, ◌-◌, ◌*◌, ◌/◌, ◌%◌, ◌^◌, ap, ◌∙◌, arith, bit_and, to_z, w32}
use Rattle.std.proofs.lemmas.Nat.{and_mask}
use Rattle.rv_isa.proofs.Same.{same_branch}
use Rattle.rv_isa.proofs.Signs.{offset_13}
use Rattle.rv_isa.proofs.fields.branch_offset.Goals as goal

pub returns : goal.returns
returns c =
    let w = c.args.word in
    let sign : ℕ = w / 2 ^ 25 / 2 ^ 6 in
    let middle : ℕ = w / 2 ^ 7 % 2 * 2 ^ 10 + w / 2 ^ 25 % 2 ^ 6 * 2 ^ 4 + w / 2 ^ 8 % 2 ^ 4 in
    let bits : c.high_branch_bits.result + bit_and (w / 2 ^ 7) 1 * 2 ^ 11 % 2 ^ 32 + bit_and (w / 2 ^ 8) 15 * 2 % 2 ^ 32 ≡ sign * (2 ^ 32 - 2 ^ 12) + middle * 2 = omega (arith, c.high_branch_bits.ensures, and_mask (w / 2 ^ 7) 1, and_mask (w / 2 ^ 8) 4) in
    let half : w / 2 ^ 25 / 2 ^ 6 * 2 ^ 11 + w / 2 ^ 7 % 2 ^ 5 % 2 * 2 ^ 10 + w / 2 ^ 25 % 2 ^ 6 * 2 ^ 4 + w / 2 ^ 7 % 2 ^ 5 / 2 ≡ sign * 2 ^ 11 + middle = omega arith in
    same_branch _ _ (rw half (offset_13 sign middle c.cast_signed.result (omega arith) (omega arith) (c.cast_signed.ensures ∙ ap (to_z w32) bits)))
