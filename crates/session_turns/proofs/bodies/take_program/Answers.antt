use Rattle.session_requests.specs.Requests.{Program}
use Rattle.session_turns.proofs.Pendings.{pending_is_new, some_settings}
use Rattle.session_turns.proofs.bodies.take_program.Goals as goal

pub take_pending-requires : goal.take_pending-requires
take_pending-requires c = pending_is_new some_settings c.args.state.now (Program c.args.file.now) c.hand_in-pending.result (c.hand_in-pending.ensures some_settings)

pub returns : goal.returns
returns c settings = c.take_pending.ensures.turn settings (Program c.args.file.now) (c.hand_in-pending.ensures settings)
