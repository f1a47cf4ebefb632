use Rattle.rv_step.proofs.Named.{named_immediate}
use Rattle.rv_step.proofs.machine.Machine.immediate_word.Goals as goal

pub returns : goal.returns
returns c = rw (named_immediate c.args.word c.args.operation c.requires.opcode c.requires.funct3) (rw (c.rd.ensures, c.rs1.ensures, c.immediate_of_i.ensures) at c.try_plain.ensures)
