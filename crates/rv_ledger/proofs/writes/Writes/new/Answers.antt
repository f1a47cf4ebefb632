use Rattle.rv_ledger.proofs.Entries.{no_writes}
use Rattle.rv_ledger.proofs.writes.Writes.new.Goals as goal

pub invariant_of-result : goal.invariant_of-result
invariant_of-result c = rw c.new.ensures.items no_writes
