use Rattle.engines.proofs.Chains.{session_cut, session_done}
use Rattle.engines.proofs.chain.chain_to.Goals as goal

pub returns-in-Ok-clause-ok : goal.returns-in-Ok-clause-ok
returns-in-Ok-clause-ok g c =
    session_done c.args.settings c.new-state.result c.serve.new.session (g.W.Write.contents c.args.out.now) (g.W.Write.contents c.serve.new.out)
    (g.R.Read.remaining c.args.input.now) c.new-state.ensures c.in-Ok.ensures.ok

pub returns-clause-err : goal.returns-clause-err
returns-clause-err g c =
    session_cut (g.R.BufferedSource.may_fail c.args.input.now) c.args.settings c.new-state.result c.serve.new.session (g.W.Write.contents c.args.out.now) (g.W.Write.contents c.serve.new.out)
    (g.R.Read.remaining c.args.input.now) c.from.result c.in-Err.fault c.new-state.ensures c.from.ensures c.in-Err.ensures.err
