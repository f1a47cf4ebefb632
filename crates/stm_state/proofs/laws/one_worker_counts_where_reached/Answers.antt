use Rattle.stm_state.proofs.OneWorkerStates.{counts_where_reached}
use Rattle.stm_state.proofs.laws.one_worker_counts_where_reached.Goals as goal

pub returns : goal.returns
returns c = counts_where_reached
