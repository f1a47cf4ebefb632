use Rattle.rv_step.proofs.Named.{named_auipc}
use Rattle.rv_step.proofs.machine.Machine.auipc_word.Goals as goal

pub returns : goal.returns
returns c = rw (named_auipc c.args.word c.requires) (rw (c.rd.ensures, c.upper.ensures) at c.try_plain.ensures)
