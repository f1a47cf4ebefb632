use Rattle.session_states.proofs.Once.{kept_once}
use Rattle.session_states.proofs.laws.kept_state_is_one.Goals as goal

pub returns : goal.returns
returns c = kept_once
