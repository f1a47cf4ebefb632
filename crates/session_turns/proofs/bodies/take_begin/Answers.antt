use Rattle.session_requests.specs.Requests.{Begin}
use Rattle.session_turns.proofs.Pendings.{pending_is_new, some_settings}
use Rattle.session_turns.proofs.bodies.take_begin.Goals as goal

pub take_pending-requires : goal.take_pending-requires
take_pending-requires c = pending_is_new some_settings c.args.state.now (Begin c.args.height c.args.digest c.args.bytes.now) c.begin-pending.result (c.begin-pending.ensures.pending some_settings)

pub returns : goal.returns
returns c settings = c.take_pending.ensures.turn settings (Begin c.args.height c.args.digest c.args.bytes.now) (c.begin-pending.ensures.pending settings)
