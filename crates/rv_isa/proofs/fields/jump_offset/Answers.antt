use Rattle.std.proofs.Common.{◌≡◌, ℕ, ◌+◌, ◌-◌, ◌*◌, ◌/◌, ◌%◌, ◌^◌, ap, ◌∙◌, arith, bit_and, to_z, w32}
use Rattle.std.proofs.lemmas.Nat.{and_mask}
use Rattle.rv_isa.proofs.Same.{same_jump}
use Rattle.rv_isa.proofs.Signs.{offset_21}
use Rattle.rv_isa.proofs.fields.jump_offset.Goals as goal

pub returns : goal.returns
returns c =
    let w = c.args.word in
    let sign : ℕ = w / 2 ^ 31 in
    let middle : ℕ = w / 2 ^ 12 % 2 ^ 8 * 2 ^ 11 + w / 2 ^ 20 % 2 * 2 ^ 10 + w / 2 ^ 21 % 2 ^ 10 in
    let bits : w / 2 ^ 31 * 0xfff00000 + bit_and (w / 2 ^ 12) 255 * 2 ^ 12 % 2 ^ 32 + bit_and (w / 2 ^ 20) 1 * 2 ^ 11 % 2 ^ 32 + bit_and (w / 2 ^ 21) 1023 * 2 % 2 ^ 32 ≡ sign * (2 ^ 32 - 2 ^ 20) + middle * 2 = omega (arith, and_mask (w / 2 ^ 12) 8, and_mask (w / 2 ^ 20) 1, and_mask (w / 2 ^ 21) 10) in
    let half : w / 2 ^ 25 / 2 ^ 6 * 2 ^ 19 + w / 2 ^ 15 % 2 ^ 5 * 2 ^ 14 + w / 2 ^ 12 % 2 ^ 3 * 2 ^ 11 + w / 2 ^ 20 % 2 ^ 5 % 2 * 2 ^ 10 + w / 2 ^ 25 % 2 ^ 6 * 2 ^ 4 + w / 2 ^ 20 % 2 ^ 5 / 2 ≡ sign * 2 ^ 19 + middle = omega arith in
    same_jump _ _ (rw half (offset_21 sign middle c.cast_signed.result (omega arith) (omega arith) (c.cast_signed.ensures ∙ ap (to_z w32) bits)))
