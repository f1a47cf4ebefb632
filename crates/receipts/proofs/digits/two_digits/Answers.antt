use Rattle.receipts.proofs.Hexed.{one_byte}
use Rattle.receipts.proofs.digits.two_digits.Goals as goal

pub returns : goal.returns
returns c = cc (one_byte c.args.byte)
