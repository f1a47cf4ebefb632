use Rattle.session_file.proofs.Once.{holds_once}
use Rattle.session_file.proofs.laws.held_session_is_one.Goals as goal

pub returns : goal.returns
returns c = holds_once
