use Rattle.session_laws.proofs.Alike.{after_alike, answers_alike, frame_after, reply_alike, states_alike}
use Rattle.session_laws.proofs.begin.begun_answers_alike.Goals as goal

pub returns : goal.returns
returns c = record { reply = reply_alike; after = after_alike; frame = frame_after; answers = answers_alike; left = states_alike }
