use Rattle.std.proofs.Common.{arith}
use Rattle.rv_isa.proofs.Same.{same_amount}
use Rattle.rv_names.proofs.ranges.amount_in_range.Goals as goal

pub returns : goal.returns
returns c = same_amount _ _ (omega arith)
