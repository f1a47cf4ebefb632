use Rattle.std.proofs.Common.{sym, ap, ◌∙◌}
use Rattle.std.specs.FinMap as map
use Rattle.rv_ledger.specs.Key.{WriteMap}
use Rattle.rv_ledger.proofs.Entries.{len_in_order}
use Rattle.rv_ledger.proofs.writes.Writes.len.Goals as goal

pub returns : goal.returns
returns c = c.len.ensures ∙ c.self.inside.entries.ok.0 ∙ sym (len_in_order c.self.inside.entries.items c.self.invariant.ascending) ∙ ap (λ (m : WriteMap). map.len m) c.self.view_is
