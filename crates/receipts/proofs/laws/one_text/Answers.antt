use Rattle.receipts.proofs.OneText.{one_text}
use Rattle.receipts.proofs.laws.one_text.Goals as goal

pub returns : goal.returns
returns c = one_text
