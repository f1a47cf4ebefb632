use Rattle.stm_state.proofs.Walks.{reached_by_list}
use Rattle.stm_state.proofs.laws.reached_by_list.Goals as goal

pub returns : goal.returns
returns c = reached_by_list
