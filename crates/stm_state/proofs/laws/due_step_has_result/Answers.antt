use Rattle.stm_state.proofs.DueSteps.{due_where_led}
use Rattle.stm_state.proofs.laws.due_step_has_result.Goals as goal

pub returns : goal.returns
returns c = due_where_led
