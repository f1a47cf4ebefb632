use Rattle.std.proofs.Common.{sym, ap, ◌∙◌}
use Rattle.std.specs.FinMap as map
use Rattle.rv_ledger.proofs.Entries.{entries_in_order}
use Rattle.rv_ledger.proofs.writes.Writes.as_slice.Goals as goal

pub returns : goal.returns
returns c = c.as_slice.ensures.value ∙ sym (entries_in_order c.self.inside.entries.items c.self.invariant.ascending) ∙ ap map.entries c.self.view_is
