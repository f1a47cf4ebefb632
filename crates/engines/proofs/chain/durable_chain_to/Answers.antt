use Rattle.std.proofs.Common.{None}
use Rattle.std.proofs.lemmas.Option.{IfSome_then}
use Rattle.session_durability.specs.Durable.{IsFileAnswer, IsLeft, IsShutBy}
use Rattle.session_durability.specs.Keeping.{MayLeave, file_moment_of}
use Rattle.session_serving.proofs.Seen.{ended, served, stopped}
use Rattle.engines.proofs.chain.durable_chain_to.Goals as goal

pub returns-in-Ok-clause-ok : goal.returns-in-Ok-clause-ok
returns-in-Ok-clause-ok g c =
    IfSome_then (g.R.Read.remaining c.args.input.now) c.in-Ok.ensures.ok
    (λ bytes. served (file_moment_of g.S.Store) (IsFileAnswer c.args.settings) None c.args.session.now bytes c.serve.new.session (g.W.Write.contents c.args.out.now) (g.W.Write.contents c.serve.new.out))

pub returns-in-Ok-clause-stopped : goal.returns-in-Ok-clause-stopped
returns-in-Ok-clause-stopped g c clean =
    IfSome_then (g.R.Read.remaining c.args.input.now) c.serve.ensures.stopped
    (λ bytes. stopped (file_moment_of g.S.Store) (IsFileAnswer c.args.settings) (MayLeave g.S.Store c.args.settings) (λ mid rest _. IsLeft c.args.settings (g.S.Store.recovers c.serve.new.session.file) mid.session rest)
    (file_moment_of g.S.Store c.args.session.now) c.args.session.now bytes c.serve.new.session (g.W.Write.contents c.args.out.now) (g.W.Write.contents c.serve.new.out) (λ mid rest left. left clean))

pub returns-in-Err-clause-err : goal.returns-in-Err-clause-err
returns-in-Err-clause-err g c = (
  c.in-Err.fault,
  c.from.ensures,
  IfSome_then (g.R.Read.remaining c.args.input.now) c.in-Err.ensures.err
      (λ bytes. ended (file_moment_of g.S.Store) (IsFileAnswer c.args.settings) (g.R.BufferedSource.may_fail c.args.input.now) (IsShutBy c.args.settings) c.in-Err.fault
      c.args.session.now bytes c.serve.new.session (g.W.Write.contents c.args.out.now) (g.W.Write.contents c.serve.new.out)),
)

pub returns-in-Err-clause-stopped : goal.returns-in-Err-clause-stopped
returns-in-Err-clause-stopped g c clean =
    IfSome_then (g.R.Read.remaining c.args.input.now) c.serve.ensures.stopped
    (λ bytes. stopped (file_moment_of g.S.Store) (IsFileAnswer c.args.settings) (MayLeave g.S.Store c.args.settings) (λ mid rest _. IsLeft c.args.settings (g.S.Store.recovers c.serve.new.session.file) mid.session rest)
    (file_moment_of g.S.Store c.args.session.now) c.args.session.now bytes c.serve.new.session (g.W.Write.contents c.args.out.now) (g.W.Write.contents c.serve.new.out) (λ mid rest left. left clean))
