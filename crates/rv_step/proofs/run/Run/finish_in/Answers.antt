use Rattle.rv_step.proofs.Beginnings.{is_borne}
use Rattle.rv_step.proofs.run.Run.finish_in.Goals as goal

pub invariant_of-result : goal.invariant_of-result
invariant_of-result c = record {
  borne_out = rw (c.receipt-receipt.ensures, c.deref_mut.ensures.value, c.gas.ensures.value) (is_borne c.self.inside.call c.self.inside.machine.value c.self.inside.answers.items c.in-Ended.end c.in-Ended.out (rw c.in-Ended.is at c.self.invariant));
}
