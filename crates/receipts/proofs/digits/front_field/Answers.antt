use Rattle.receipts.proofs.Lanes.{front_spaced}
use Rattle.receipts.proofs.digits.front_field.Goals as goal

pub returns : goal.returns
returns c = front_spaced c.args.digits c.fits-digits.0
