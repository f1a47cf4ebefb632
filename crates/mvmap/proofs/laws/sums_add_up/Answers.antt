use Rattle.mvmap.proofs.Sums.{sums_add_up}
use Rattle.mvmap.proofs.laws.sums_add_up.Goals as goal

pub returns : goal.returns
returns c = sums_add_up
