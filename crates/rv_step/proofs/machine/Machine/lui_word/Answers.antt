use Rattle.rv_step.proofs.Named.{named_lui}
use Rattle.rv_step.proofs.machine.Machine.lui_word.Goals as goal

pub returns : goal.returns
returns c = rw (named_lui c.args.word c.requires) (rw (c.rd.ensures, c.upper.ensures) at c.try_plain.ensures)
