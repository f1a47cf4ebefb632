use Rattle.std.proofs.Common.{◌+◌, ap, ◌∙◌}
use Rattle.std.specs.FinMap as map
use Rattle.rv_ledger.proofs.Entries.{one_set}
use Rattle.conflicts.proofs.wait_counts.WaitCounts.add.Goals as goal

pub returns : goal.returns
returns c =
    let count = c.at.result + c.args.more in
    one_set c.self.inside.entries.entries c.insert.new.self.entries c.args.key count c.in_ok-insert.ensures.updates.0 ∙ ap (λ m. map.insert m c.args.key count) c.self.view_is
    ∙ ap (λ n. map.insert c.args.self.now c.args.key (n + c.args.more)) c.at.ensures
