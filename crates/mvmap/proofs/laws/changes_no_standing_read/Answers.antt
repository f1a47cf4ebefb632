use Rattle.mvmap.proofs.Changes.{changes_none}
use Rattle.mvmap.proofs.laws.changes_no_standing_read.Goals as goal

pub returns : goal.returns
returns c = changes_none
