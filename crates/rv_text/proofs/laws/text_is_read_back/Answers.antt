use Rattle.rv_text.proofs.Instructions.{read_back}
use Rattle.rv_text.proofs.laws.text_is_read_back.Goals as goal

pub returns : goal.returns
returns c = read_back c.args.word c.ranges.word.fits c.decode-instr.result c.decode-instr.ensures.function (λ x e. (c.decode-instr.ensures.word x).0 e)
