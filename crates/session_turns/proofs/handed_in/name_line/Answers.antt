use Rattle.session_turns.proofs.WholeTexts.{whole_bytes}
use Rattle.session_turns.proofs.handed_in.name_line.Goals as goal

pub returns : goal.returns
returns c = whole_bytes c.finished.result c.in_ok-waiting.waiting c.push_name.new.text c.new-text.result c.push_name.new.out _ c.finished.ensures c.in_ok-waiting.ensures c.new-text.ensures.items c.push_name.ensures
