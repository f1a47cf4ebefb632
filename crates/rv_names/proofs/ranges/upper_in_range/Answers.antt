use Rattle.std.proofs.Common.{arith}
use Rattle.rv_isa.proofs.Same.{same_upper}
use Rattle.rv_names.proofs.ranges.upper_in_range.Goals as goal

pub returns : goal.returns
returns c = same_upper _ _ (omega arith)
