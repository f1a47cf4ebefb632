use Rattle.rv_step.proofs.Receipts.{one_receipt_lem}
use Rattle.rv_step.proofs.laws.one_receipt.Goals as goal

pub returns : goal.returns
returns c = one_receipt_lem
