use Rattle.rv_step.proofs.Named.{named_branch}
use Rattle.rv_step.proofs.machine.Machine.branch_word.Goals as goal

pub returns : goal.returns
returns c = rw (named_branch c.args.word c.args.condition c.requires.opcode c.requires.funct3) (rw (c.rs1.ensures, c.rs2.ensures, c.branch_offset.ensures) at c.try_plain.ensures)
