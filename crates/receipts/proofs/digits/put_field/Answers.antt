use Rattle.receipts.proofs.Words.{field_put}
use Rattle.receipts.proofs.digits.put_field.Goals as goal

pub returns : goal.returns
returns c = field_put c.args.line.now c.args.field c.args.at c.requires c.fits-field.0
