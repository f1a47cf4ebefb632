use Rattle.std.proofs.Common.{refl, ap, ◌∙◌, None}
use Rattle.std.specs.FinMap as map
use Rattle.mvmap.specs.Table.{Table}
use Rattle.mvmap.specs.declared.slot.Slot.TheVariants as slot
use Rattle.mvmap.proofs.Fills.{written_versions, written_places, table_is}
use Rattle.mvmap.proofs.map.MvMap.withdraw.Goals as goal

pub returns : goal.returns
returns c =
    let es = c.self.inside.slots in
    let rs = c.self.inside.arena.records in
    table_is _ _
    (written_versions rs rs es c.put.new.self (c.args.key.now, c.args.writer) slot.Vacant None c.put.ensures (λ q. refl) refl (λ _. refl)
    ∙ ap (λ (t : Table). map.remove t.versions (c.args.key.now, c.args.writer)) c.self.view_is)
    (written_places es c.put.new.self (c.args.key.now, c.args.writer) slot.Vacant c.put.ensures ∙ ap (λ (t : Table). t.places) c.self.view_is)
    (ap (λ (t : Table). t.arena) c.self.view_is)
