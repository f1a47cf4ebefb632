use Rattle.stm_state.proofs.Serials.{serial_at_done}
use Rattle.stm_state.proofs.laws.done_is_serial.Goals as goal

pub returns : goal.returns
returns c = serial_at_done
