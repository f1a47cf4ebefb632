use Rattle.rv_text.proofs.Layouts.{taken, refused, ended}
use Rattle.rv_text.proofs.assembler.lay_out.Goals as goal

pub loop-index-preserved : goal.loop-index-preserved
loop-index-preserved c = taken _ _ _ _ _ _ _ c.loop-index-test.true c.in_default.ensures c.loop-index.invariant

pub returns-in-Err : goal.returns-in-Err
returns-in-Err c = refused _ _ _ _ _ _ _ c.loop-index-test.true c.in-Err.ensures c.loop-index.invariant

pub returns : goal.returns
returns c = ended _ _ _ _ _ c.loop-index-test.false c.loop-index.invariant
