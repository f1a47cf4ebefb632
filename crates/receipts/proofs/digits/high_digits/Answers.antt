use Rattle.receipts.proofs.Lanes.{high_ok, high_read}
use Rattle.receipts.proofs.digits.high_digits.Goals as goal

pub swizzle : goal.swizzle
swizzle c = high_ok c.args.bytes c.fits-bytes

pub returns : goal.returns
returns c = high_read c.args.bytes c.fits-bytes
