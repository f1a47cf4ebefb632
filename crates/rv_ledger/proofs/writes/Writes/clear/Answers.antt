use Rattle.rv_ledger.proofs.Entries.{no_writes}
use Rattle.rv_ledger.proofs.writes.Writes.clear.Goals as goal

pub invariant_of-self : goal.invariant_of-self
invariant_of-self c = rw c.clear.ensures.items no_writes
