use Rattle.rv_step.proofs.Named.{named_store}
use Rattle.rv_step.proofs.machine.Machine.store_word.Goals as goal

pub returns : goal.returns
returns c = rw (named_store c.args.word c.args.kind c.requires.opcode c.requires.funct3) (rw (c.rs2.ensures, c.rs1.ensures, c.immediate_of_s.ensures) at c.try_store.ensures)
