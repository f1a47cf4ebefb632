use Rattle.std.proofs.Common.{arith}
use Rattle.receipts.proofs.Words.{all_put, four_more}
use Rattle.receipts.proofs.digits.put_words.Goals as goal

pub loop-i-preserved : goal.loop-i-preserved
loop-i-preserved c = four_more c.loop-i.line c.put_four_words.new.line c.args.line.now c.args.words.now c.loop-i.i _ (omega arith) c.loop-i.invariant c.put_four_words.ensures

pub returns : goal.returns
returns c = all_put c.loop-i.line c.args.line.now c.args.words.now c.loop-i.i (omega arith) c.told-words c.loop-i.invariant
