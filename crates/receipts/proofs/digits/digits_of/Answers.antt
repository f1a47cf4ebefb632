use Rattle.receipts.proofs.Lanes.{woven_back, woven_front}
use Rattle.receipts.proofs.digits.digits_of.Goals as goal

pub returns-clause-front : goal.returns-clause-front
returns-clause-front c = rw (c.high_digits.ensures, c.low_digits.ensures) (woven_front c.args.bytes c.fits-bytes.0)

pub returns-clause-back : goal.returns-clause-back
returns-clause-back c = rw (c.high_digits.ensures, c.low_digits.ensures) (woven_back c.args.bytes c.fits-bytes.0)
