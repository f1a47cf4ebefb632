use Rattle.conflicts.proofs.Named.{lines_name}
use Rattle.conflicts.proofs.laws.lines_name_the_waits.Goals as goal

pub returns : goal.returns
returns c = lines_name
