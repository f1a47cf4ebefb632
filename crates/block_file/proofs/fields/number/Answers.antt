use Rattle.std.proofs.Common.{sym, ◌∙◌, arith}
use Rattle.block_file.proofs.FieldLemmas.{one_more, sum_more, sum_small}
use Rattle.block_file.proofs.fields.number.Goals as goal

pub overflow_mul-number : goal.overflow_mul-number
overflow_mul-number c =
    omega (arith, sum_small c.args.text.now c.loop-byte.byte-index c.requires c.loop-byte.invariant.digits)

pub overflow_add-number : goal.overflow_add-number
overflow_add-number c =
    omega (arith, sum_small c.args.text.now c.loop-byte.byte-index c.requires c.loop-byte.invariant.digits, c.type_inv.text c.loop-byte.byte-index)

pub loop-byte-preserved : goal.loop-byte-preserved
loop-byte-preserved c = record {
  digits = one_more c.args.text.now c.loop-byte.byte-index (omega arith) c.loop-byte.invariant.digits (sym c.is_ascii_digit.ensures.value ∙ c.if-not-is_ascii_digit.false);
  sum = omega (arith, sum_more c.args.text.now c.loop-byte.byte-index (omega arith));
}
