use Rattle.std.proofs.Common.{arith}
use Rattle.std.proofs.lemmas.Grind.{common_steps}
use Rattle.rv_names.proofs.InRange.{high_again}
use Rattle.rv_names.proofs.ranges.high_part.Goals as goal

pub returns : goal.returns
returns c = high_again _ c.args.number c.ranges.number.fits (grind (arith, common_steps))
