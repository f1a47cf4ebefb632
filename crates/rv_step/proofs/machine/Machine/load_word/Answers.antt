use Rattle.rv_step.proofs.Named.{named_load}
use Rattle.rv_step.proofs.machine.Machine.load_word.Goals as goal

pub returns : goal.returns
returns c = rw (named_load c.args.word c.args.kind c.requires.opcode c.requires.funct3) (rw (c.rd.ensures, c.rs1.ensures, c.immediate_of_i.ensures) at c.try_load.ensures)
