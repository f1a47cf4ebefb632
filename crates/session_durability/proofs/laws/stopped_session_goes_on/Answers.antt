use Rattle.session_durability.proofs.Resumes.{resumed}
use Rattle.session_durability.proofs.laws.stopped_session_goes_on.Goals as goal

pub returns : goal.returns
returns g c settings old bytes before now db found = resumed settings old bytes before now (g.S.Store.recovers c.args.session.now.file) db found
