use Rattle.stm_state.proofs.Dones.{last_entry}
use Rattle.stm_state.proofs.laws.last_entry_is_done.Goals as goal

pub returns : goal.returns
returns c = last_entry
