use Rattle.rv_names.specs.Mnemonics.{keyword_of}
use Rattle.rv_names.proofs.keywords.keyword_of.Goals as goal

pub returns : goal.returns
unfolding keyword_of
returns c = rw c.as_slice.ensures at c.found.ensures
