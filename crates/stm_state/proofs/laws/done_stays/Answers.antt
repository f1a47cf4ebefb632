use Rattle.stm_state.proofs.Dones.{asked_at_done, done_after}
use Rattle.stm_state.proofs.laws.done_stays.Goals as goal

pub returns : goal.returns
returns c = record { asking = asked_at_done; done = done_after }
