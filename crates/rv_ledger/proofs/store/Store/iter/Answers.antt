use Rattle.std.proofs.Common.{ap, sym, ◌∙◌}
use Rattle.std.specs.FinMap as map
use Rattle.rv_ledger.specs.Positions.{by_key}
use Rattle.rv_ledger.proofs.Entries.{entries_in_order}
use Rattle.rv_ledger.proofs.store.Store.iter.Goals as goal

pub returns : goal.returns
returns c = c.iter.ensures.all ∙ sym (entries_in_order (by_key c.self.inside.table) c.iter.ensures.ascending) ∙ ap map.entries c.self.view_is
