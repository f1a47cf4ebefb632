use Rattle.std.proofs.Common.{ap, ◌∙◌}
use Rattle.std.specs.FinMap as map
use Rattle.rv_ledger.proofs.Entries.{one_set}
use Rattle.conflicts.proofs.call_lists.CallLists.set_alone.Goals as goal

pub returns : goal.returns
returns c = one_set c.self.inside.entries.entries c.insert.new.self.entries c.args.key c.in_ok-list.list c.in_ok-insert.ensures.updates.0 ∙ ap (λ m. map.insert m c.args.key c.in_ok-list.list) c.self.view_is ∙ ap (map.insert c.args.self.now c.args.key) c.in_ok-list.ensures
