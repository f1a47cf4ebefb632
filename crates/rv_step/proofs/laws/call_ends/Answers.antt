use Rattle.rv_step.proofs.Receipts.{over_after_gas}
use Rattle.rv_step.proofs.laws.call_ends.Goals as goal

pub returns : goal.returns
returns c = over_after_gas
