use Rattle.std.proofs.Common.{arith}
use Rattle.std.proofs.lemmas.Int.{ints}
use Rattle.std.proofs.lemmas.Grind.{common_steps}
use Rattle.rv_isa.proofs.Same.{same_immediate}
use Rattle.rv_names.proofs.ranges.low_part.Goals as goal

pub returns : goal.returns
returns c = same_immediate _ _ (grind (arith, ints, common_steps))
