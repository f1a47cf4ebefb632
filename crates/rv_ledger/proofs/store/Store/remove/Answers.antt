use Rattle.std.proofs.Common.{ap, ◌∙◌}
use Rattle.std.specs.FinMap as map
use Rattle.rv_ledger.specs.Positions.{by_key}
use Rattle.rv_ledger.proofs.Entries.{one_gone}
use Rattle.rv_ledger.proofs.store.Store.remove.Goals as goal

pub returns : goal.returns
returns c = one_gone (by_key c.self.inside.table) (by_key c.remove.new.self) c.args.key.now c.remove.ensures.gone ∙ ap (λ m. map.remove m c.args.key.now) c.self.view_is
