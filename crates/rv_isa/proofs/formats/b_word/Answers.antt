use Rattle.std.proofs.Common.{arith}
use Rattle.rv_isa.proofs.Bits.{branch_fields}
use Rattle.rv_isa.proofs.formats.b_word.Goals as goal

pub returns : goal.returns
returns c =
    let fields = branch_fields c.args.offset.value c.cast_unsigned-bits.result c.args.offset.in_range c.cast_unsigned-bits.ensures in
    omega arith
