use Rattle.mvmap.proofs.Changes.{depends_on_lower}
use Rattle.mvmap.proofs.laws.depends_on_lower_writers.Goals as goal

pub returns : goal.returns
returns c = depends_on_lower
