use Rattle.std.proofs.Common.{refl, ap, ◌∙◌, Some}
use Rattle.std.specs.FinMap as map
use Rattle.std.specs.FinSet as set
use Rattle.mvmap.specs.Table.{Table}
use Rattle.mvmap.specs.Versions.{Estimate}
use Rattle.mvmap.specs.Slots.{slot_at}
use Rattle.mvmap.specs.declared.slot.Slot.TheVariants as slot
use Rattle.mvmap.proofs.Fills.{written_versions, written_places, table_is, there_at_place, there_not_none}
use Rattle.mvmap.proofs.map.MvMap.to_estimate.Goals as goal

pub returns : goal.returns
returns c =
    let es = c.self.inside.slots in
    let rs = c.self.inside.arena.records in
    let there = there_at_place es (c.args.key.now, c.args.writer) (ap (λ (t : Table). set.contains t.places (c.args.key.now, c.args.writer)) c.self.view_is ∙ c.requires) in
    table_is _ _
    (written_versions rs rs es c.put.new.self (c.args.key.now, c.args.writer) slot.Estimate (Some Estimate) c.put.ensures (λ q. refl) refl
    (there_not_none (slot_at es (c.args.key.now, c.args.writer)) (Some Estimate) there)
    ∙ ap (λ (t : Table). map.insert t.versions (c.args.key.now, c.args.writer) Estimate) c.self.view_is)
    (written_places es c.put.new.self (c.args.key.now, c.args.writer) slot.Estimate c.put.ensures ∙ ap (λ (t : Table). t.places) c.self.view_is)
    (ap (λ (t : Table). t.arena) c.self.view_is)
