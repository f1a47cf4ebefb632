use Rattle.debugger.proofs.Storages.{opened_over}
use Rattle.debugger.proofs.laws.opens_over_its_storage.Goals as goal

pub returns : goal.returns
returns c = opened_over
