use Rattle.std.proofs.Common.{arith}
use Rattle.std.proofs.lemmas.Int.{ints}
use Rattle.rv_names.proofs.InRange.{held_branch_at}
use Rattle.rv_names.proofs.ranges.branch_in_range.Goals as goal

pub returns : goal.returns
returns c = held_branch_at _ c.args.number (omega (arith, ints)) c.requires
