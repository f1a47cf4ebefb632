use Rattle.receipts.proofs.Lanes.{low_ok, low_read}
use Rattle.receipts.proofs.digits.low_digits.Goals as goal

pub swizzle : goal.swizzle
swizzle c = low_ok c.args.bytes c.fits-bytes

pub returns : goal.returns
returns c = low_read c.args.bytes c.fits-bytes
