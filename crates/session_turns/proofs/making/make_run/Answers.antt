use Rattle.session_turns.proofs.Pendings.{left_fits}
use Rattle.session_turns.specs.Ready.{left_without}
use Rattle.session_turns.proofs.making.make_run.Goals as goal

pub make-requires : goal.make-requires
make-requires c = left_fits (left_without c.args.run.left c.args._keys.now c.args.state.now.store) c.args.state.now.store c.args.run.left c.args._keys.now _ c.in-Changed.is c.requires
