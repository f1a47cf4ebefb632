use Rattle.std.proofs.Common.{◌∷◌, ap}
use Rattle.receipts.proofs.Lanes.{first_eight}
use Rattle.receipts.proofs.digits.word_field.Goals as goal

pub returns : goal.returns
returns c = rw (c.front_field.ensures, c.digits_of_four.ensures, c.to_be_bytes.ensures) (ap (λ digits. 32 ∷ digits) (first_eight _ _ _ _))
