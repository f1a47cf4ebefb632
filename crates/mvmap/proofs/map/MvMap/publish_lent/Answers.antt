use Rattle.std.proofs.Common.{ap, ◌∙◌, ◌++◌, ◌∷◌, [], Some}
use Rattle.rv_ledger.specs.Lent.{lent_change}
use Rattle.std.specs.FinMap as map
use Rattle.std.specs.FinSet as set
use Rattle.version_arena.specs.ArenaState.{Record, ArenaState}
use Rattle.mvmap.specs.Table.{Table}
use Rattle.mvmap.specs.Versions.{Stands}
use Rattle.mvmap.specs.Slots.{slot_at, versions_of}
use Rattle.mvmap.specs.declared.slot.Slot.TheVariants as slot
use Rattle.mvmap.proofs.Fills.{written_versions, written_places, kept_entries, entry_of_last, there_at_place, there_not_none}
use Rattle.mvmap.proofs.map.MvMap.publish_lent.Goals as goal

pub returns-clause-versions : goal.returns-clause-versions
returns-clause-versions c =
    let es = c.self.inside.slots in
    let rs = c.self.inside.arena.records in
    let change = lent_change c.args.change in
    let r : Record = record { writer = c.args.writer; incarnation = c.args.incarnation; change = change } in
    let there = there_at_place es (c.args.key.now, c.args.writer) (ap (λ (t : Table). set.contains t.places (c.args.key.now, c.args.writer)) c.self.view_is ∙ c.requires.place) in
    ap (λ (s : ArenaState). versions_of s.records c.put.new.self) c.place_lent-id.ensures.placed
    ∙ written_versions rs (rs ++ r ∷ []) es c.put.new.self (c.args.key.now, c.args.writer) (slot.Placed c.place_lent-id.result) (Some (Stands c.args.incarnation change))
    c.put.ensures (kept_entries rs r es c.self.invariant) (entry_of_last rs r c.place_lent-id.result c.place_lent-id.ensures.id)
    (there_not_none (slot_at es (c.args.key.now, c.args.writer)) (Some (Stands c.args.incarnation change)) there)
    ∙ ap (λ (t : Table). map.insert t.versions (c.args.key.now, c.args.writer) (Stands c.args.incarnation change)) c.self.view_is

pub returns-clause-places : goal.returns-clause-places
returns-clause-places c =
    written_places c.self.inside.slots c.put.new.self (c.args.key.now, c.args.writer) (slot.Placed c.place_lent-id.result) c.put.ensures
    ∙ ap (λ (t : Table). t.places) c.self.view_is
