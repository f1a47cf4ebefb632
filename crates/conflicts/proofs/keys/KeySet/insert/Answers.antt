use Rattle.std.proofs.Common.{ap, ◌∙◌}
use Rattle.std.specs.FinMap as map
use Rattle.rv_ledger.proofs.Entries.{one_set}
use Rattle.conflicts.proofs.keys.KeySet.insert.Goals as goal

pub returns : goal.returns
returns c = one_set c.self.inside.entries.entries c.insert.new.self.entries c.args.key tt c.in_ok-insert.ensures.updates.0 ∙ ap (λ s. map.insert s c.args.key tt) c.self.view_is
