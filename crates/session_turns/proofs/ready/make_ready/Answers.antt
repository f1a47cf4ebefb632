use Rattle.session_turns.proofs.Readies.{is_ready, without_is}
use Rattle.session_turns.proofs.ready.make_ready.Goals as goal

pub returns-in-Ok-clause-ready : goal.returns-in-Ok-clause-ready
returns-in-Ok-clause-ready c = is_ready c.args.state.now c.make_room.new.state c.args.pending c.in-Ok.keys c.in-Ok.ensures.ok

pub returns-in-Ok-clause-before : goal.returns-in-Ok-clause-before
returns-in-Ok-clause-before c = without_is c.args.state.now c.make_room.new.state c.args.pending c.in-Ok.keys c.in-Ok.ensures.ok
