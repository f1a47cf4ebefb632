use Rattle.rv_text.proofs.Appended.{taken, refused, ended}
use Rattle.rv_text.proofs.words.words_of.Goals as goal

pub loop-item-preserved : goal.loop-item-preserved
loop-item-preserved c = taken _ _ _ _ _ _ _ c.loop-item-test.true c.item-item.is c.in_default.ensures c.loop-item.invariant

pub returns-in-Err : goal.returns-in-Err
returns-in-Err c = refused _ _ _ _ _ _ _ c.loop-item-test.true c.item-item.is c.in-Err.ensures c.loop-item.invariant

pub returns : goal.returns
returns c = ended _ _ _ _ _ c.loop-item-test.false c.loop-item.invariant
