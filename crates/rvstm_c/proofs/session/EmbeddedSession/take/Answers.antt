use Rattle.std.proofs.Common.{refl}
use Rattle.session_requests.specs.Reading.{ask_of}
use Rattle.rvstm_c.proofs.session.EmbeddedSession.take.Goals as goal

pub returns : goal.returns
returns c = c.keep.ensures c.args.self.now (ask_of c.args.request.now) refl c.take_turn-answer.ensures
