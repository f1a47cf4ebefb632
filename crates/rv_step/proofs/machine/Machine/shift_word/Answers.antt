use Rattle.rv_step.proofs.Named.{named_shift}
use Rattle.rv_step.proofs.machine.Machine.shift_word.Goals as goal

pub returns : goal.returns
returns c = rw (named_shift c.args.word c.args.shift c.requires.opcode c.requires.funct7 c.requires.funct3) (rw (c.rd.ensures, c.rs1.ensures, c.shift_amount.ensures) at c.try_plain.ensures)
