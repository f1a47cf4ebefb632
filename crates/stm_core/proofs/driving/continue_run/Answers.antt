use Rattle.stm_state.specs.Steps.{Record}
use Rattle.stm_core.specs.CoreState.{block_in}
use Rattle.stm_core.proofs.TaskChanges.{turn_own}
use Rattle.stm_core.proofs.driving.continue_run.Goals as goal

pub returns-in_ok-hand_in-in-Ended-clause-fits : goal.returns-in_ok-hand_in-in-Ended-clause-fits
returns-in_ok-hand_in-in-Ended-clause-fits c =
    let b = c.args.core.now in
    turn_own (block_in b) c.args.worker Record b.state c.hand_in.new.core.state c.in_ok-hand_in-in-Ended.ensures.makes.0 c.requires.worker
