use Rattle.std.proofs.Common.{arith, ap}
use Rattle.std.specs.FinMap as map
use Rattle.rv_ledger.specs.Key.{WriteMap}
use Rattle.rv_ledger.proofs.Entries.{len_in_order}
use Rattle.rv_ledger.proofs.writes.Writes.holds.Goals as goal

pub returns : goal.returns
returns c = omega (arith, len_in_order c.self.inside.entries.items c.self.invariant.ascending, ap (λ (m : WriteMap). map.len m) c.self.view_is, c.self.invariant.few)
