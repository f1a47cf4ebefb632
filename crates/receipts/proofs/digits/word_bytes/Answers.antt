use Rattle.receipts.proofs.Words.{words_turned}
use Rattle.receipts.proofs.digits.word_bytes.Goals as goal

pub returns : goal.returns
returns c = words_turned c.args.words.now c.requires c.type_inv.words
