use Rattle.rv_step.proofs.Refused.{load_refused}
use Rattle.rv_step.proofs.machine.Machine.load.Goals as goal

pub returns-in-Err : goal.returns-in-Err
returns-in-Err c = load_refused c.in-Err.fault c.trap_of.result c.trap_of.ensures c.args.kind c.args.rd c.args.self.now _ (rw (c.address-address.ensures, c.get.ensures) at c.in-Err.ensures.value)
