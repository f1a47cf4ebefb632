use Rattle.std.proofs.Common.{ap, ◌∙◌}
use Rattle.std.specs.FinMap as finite
use Rattle.mvmap.specs.Table.{Table}
use Rattle.mvmap.proofs.Snapshots.{snapshot_is, on_ok}
use Rattle.mvmap.proofs.map.MvMap.snapshot_into.Goals as goal

pub returns : goal.returns
returns c = on_ok c.apply_slots.result _ _ _ c.apply_slots.ensures.values c.apply_slots.ensures.ordered (λ values order key i top.
    values key ∙ snapshot_is c.self.inside.arena.records c.self.inside.slots c.args.self.now.versions (ap (λ (t : Table). t.versions) c.self.view_is) order c.requires key i (finite.get c.args.store.now key) top)
