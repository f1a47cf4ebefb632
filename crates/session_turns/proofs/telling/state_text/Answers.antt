use Rattle.session_turns.proofs.WholeTexts.{whole_bytes}
use Rattle.session_turns.proofs.telling.state_text.Goals as goal

pub returns : goal.returns
returns c = whole_bytes c.finished.result c.in_ok-waiting.waiting c.push_state.new.text c.new-text.result c.push_state.new.out _ c.finished.ensures c.in_ok-waiting.ensures c.new-text.ensures.items c.push_state.ensures
