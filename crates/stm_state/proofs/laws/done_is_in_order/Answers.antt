use Rattle.stm_state.proofs.Orders.{in_order_at_done}
use Rattle.stm_state.proofs.laws.done_is_in_order.Goals as goal

pub returns : goal.returns
returns c = in_order_at_done
