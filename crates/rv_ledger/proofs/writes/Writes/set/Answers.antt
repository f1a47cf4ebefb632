use Rattle.std.proofs.Common.{ap, ◌∙◌}
use Rattle.std.specs.FinMap as map
use Rattle.rv_ledger.proofs.Entries.{one_set, write_fits}
use Rattle.rv_ledger.proofs.writes.Writes.set.Goals as goal

pub invariant_of-self-2 : goal.invariant_of-self-2
invariant_of-self-2 c = write_fits c.self.inside.entries.items c.put.new.entries.items c.args.key c.args.self.now c.self.invariant c.self.view_is c.requires c.put.ensures.ascending c.in_ok-put.ensures.len

pub returns-clause-ok : goal.returns-clause-ok
returns-clause-ok c =
    one_set c.self.inside.entries.items c.put.new.entries.items c.args.key c.in_ok-change.change c.in_ok-put.ensures.ok
    ∙ ap (λ m. map.insert m c.args.key c.in_ok-change.change) c.self.view_is
    ∙ ap (map.insert c.args.self.now c.args.key) c.in_ok-change.ensures
