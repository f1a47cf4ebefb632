use Rattle.std.proofs.Common.{◌∙◌, ap, arith}
use Rattle.receipts.specs.Text.{regs_line}
use Rattle.receipts.proofs.Words.{ended}
use Rattle.receipts.proofs.text.regs_bytes.Goals as goal

pub returns : goal.returns
returns c =
    ended c.put_words.new.line c.values.result.now _ _ (omega (arith, c.put_words.auto.line)) c.copy_from_slice.ensures.after c.put_words.ensures
    ∙ ap regs_line c.values.ensures.all
