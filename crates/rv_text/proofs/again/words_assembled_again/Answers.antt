use Rattle.rv_text.proofs.Listings.{assembled_listing}
use Rattle.rv_text.proofs.again.words_assembled_again.Goals as goal

pub returns : goal.returns
returns c = assembled_listing c.args.words.now c.are_read_back.ensures
