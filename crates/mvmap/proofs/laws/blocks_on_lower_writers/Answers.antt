use Rattle.mvmap.proofs.Changes.{blocks_on_lower}
use Rattle.mvmap.proofs.laws.blocks_on_lower_writers.Goals as goal

pub returns : goal.returns
returns c = blocks_on_lower
