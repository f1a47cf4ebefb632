use Rattle.mvmap.proofs.Changes.{names_standing}
use Rattle.mvmap.proofs.laws.names_what_stands.Goals as goal

pub returns : goal.returns
returns c = names_standing
