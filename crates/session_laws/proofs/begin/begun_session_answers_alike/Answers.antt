use Rattle.session_laws.proofs.Begins.{session_answers, session_left}
use Rattle.session_laws.proofs.begin.begun_session_answers_alike.Goals as goal

pub returns : goal.returns
returns c = record { answers = session_answers; left = session_left }
