use Rattle.session_requests.proofs.SpelledLines as lines
use Rattle.session_requests.proofs.laws.read_is_written.Goals as goal

pub returns : goal.returns
returns c = lines.read_is_written
