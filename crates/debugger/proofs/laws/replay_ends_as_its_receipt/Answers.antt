use Rattle.debugger.proofs.Storages.{opened_ends}
use Rattle.debugger.proofs.laws.replay_ends_as_its_receipt.Goals as goal

pub returns : goal.returns
returns c = opened_ends
