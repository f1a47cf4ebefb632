use Rattle.std.proofs.Common.{◌∙◌, ◌++◌, ap}
use Rattle.receipts.specs.Text.{result_text}
use Rattle.receipts.proofs.Buffers.{whole_text}
use Rattle.receipts.proofs.text.result_text.Goals as goal

pub returns-in-Ok : goal.returns-in-Ok
returns-in-Ok c =
    (whole_text _ c.in_ok-waiting.ensures.0 c.in_ok-waiting.ensures.1 c.push_result.ensures c.in-Ok.ensures.writes).ok
    ∙ ap (λ items. items ++ result_text c.args.receipts.now c.args.store.now) c.new-text.ensures.items
