use Rattle.stm_state.proofs.Serials.{versions_at_done}
use Rattle.stm_state.proofs.laws.done_has_versions_alone.Goals as goal

pub returns : goal.returns
returns c = versions_at_done
