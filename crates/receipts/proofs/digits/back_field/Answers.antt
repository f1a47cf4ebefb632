use Rattle.receipts.proofs.Lanes.{back_spaced}
use Rattle.receipts.proofs.digits.back_field.Goals as goal

pub returns : goal.returns
returns c = back_spaced c.args.digits c.fits-digits.0
