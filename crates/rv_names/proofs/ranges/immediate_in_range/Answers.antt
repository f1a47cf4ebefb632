use Rattle.std.proofs.Common.{arith}
use Rattle.std.proofs.lemmas.Int.{ints}
use Rattle.rv_names.proofs.InRange.{held_immediate_at}
use Rattle.rv_names.proofs.ranges.immediate_in_range.Goals as goal

pub returns : goal.returns
returns c = held_immediate_at _ c.args.number (omega (arith, ints)) c.requires
