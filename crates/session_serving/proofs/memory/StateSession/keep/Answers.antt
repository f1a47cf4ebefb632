use Rattle.session_serving.proofs.Answers.{answer_of}
use Rattle.session_serving.proofs.memory.StateSession.keep.Goals as goal

pub returns-clause-ok : goal.returns-clause-ok
returns-clause-ok c = λ ask asks. answer_of c.args._settings c.args.self.now ask c.take_pending.result c.take_pending.new.state (c.take_pending.ensures.turn c.args._settings ask asks.pending)
