use Rattle.rv_step.proofs.Named.{named_compute}
use Rattle.rv_step.proofs.machine.Machine.compute_word.Goals as goal

pub returns : goal.returns
returns c = rw (named_compute c.args.word c.args.operation c.requires.opcode c.requires.funct7 c.requires.funct3) (rw (c.rd.ensures, c.rs1.ensures, c.rs2.ensures) at c.try_plain.ensures)
