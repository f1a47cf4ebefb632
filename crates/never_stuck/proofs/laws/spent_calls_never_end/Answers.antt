use Rattle.never_stuck.proofs.Spents.{spent_calls_never_end}
use Rattle.never_stuck.proofs.laws.spent_calls_never_end.Goals as goal

pub returns : goal.returns
returns c = spent_calls_never_end
