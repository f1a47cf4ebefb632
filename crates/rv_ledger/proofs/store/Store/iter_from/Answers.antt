use Rattle.std.proofs.Common.{◌∙◌, ap, sym}
use Rattle.std.specs.FinMap as map
use Rattle.std.specs.List.{filter}
use Rattle.rv_ledger.specs.Ranges.{is_from}
use Rattle.rv_ledger.specs.Positions.{EntryList, by_key}
use Rattle.rv_ledger.proofs.Entries.{entries_in_order}
use Rattle.rv_ledger.proofs.store.Store.iter_from.Goals as goal

pub returns : goal.returns
returns c = c.iter_from.ensures.all ∙ ap (λ (es : EntryList). filter (is_from c.args.from.now) es) (sym (entries_in_order (by_key c.self.inside.table) c.iter_from.ensures.ascending) ∙ ap map.entries c.self.view_is)
