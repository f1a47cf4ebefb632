use Rattle.session_laws.proofs.Begins.{begins}
use Rattle.session_laws.proofs.begin.begin_after_dump.Goals as goal

pub returns : goal.returns
returns c = begins
