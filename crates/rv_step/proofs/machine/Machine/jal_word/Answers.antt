use Rattle.rv_step.proofs.Named.{named_jal}
use Rattle.rv_step.proofs.machine.Machine.jal_word.Goals as goal

pub returns : goal.returns
returns c = rw (named_jal c.args.word c.requires) (rw (c.rd.ensures, c.jump_offset.ensures) at c.try_plain.ensures)
