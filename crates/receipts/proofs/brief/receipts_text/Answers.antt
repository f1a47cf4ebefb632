use Rattle.std.proofs.Common.{◌∙◌, ◌++◌, ap}
use Rattle.receipts.specs.Brief.{receipts_text}
use Rattle.receipts.proofs.Buffers.{whole_text}
use Rattle.receipts.proofs.brief.receipts_text.Goals as goal

pub returns-in-Ok : goal.returns-in-Ok
returns-in-Ok c =
    (whole_text _ c.in_ok-waiting.ensures.0 c.in_ok-waiting.ensures.1 c.push_receipts.ensures c.in-Ok.ensures.writes).ok
    ∙ ap (λ items. items ++ receipts_text c.args.is_brief c.args.receipts.now) c.new-text.ensures.items
