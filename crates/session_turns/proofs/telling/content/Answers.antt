use Rattle.std.proofs.Common.{◌≡◌, ℕ, List, Option, IfOk, subst}
use Rattle.session_turns.specs.Telling.{value_line}
use Rattle.session_turns.proofs.WholeTexts.{whole_bytes}
use Rattle.session_turns.proofs.telling.content.Goals as goal

pub returns : goal.returns
returns c = subst (λ (value : Option (List ℕ)). IfOk c.finished.result (λ text. text.items ≡ value_line value)) c.get.ensures
    (whole_bytes c.finished.result c.in_ok-waiting.waiting c.push_content.new.text c.new-text.result c.push_content.new.out _ c.finished.ensures c.in_ok-waiting.ensures c.new-text.ensures.items c.push_content.ensures)
