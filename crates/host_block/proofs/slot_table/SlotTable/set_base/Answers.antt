use Rattle.std.proofs.Common.{Some, arith}
use Rattle.host_block.specs.Positions.{table_slots}
use Rattle.host_block.specs.declared.slot.Slot.{Slot}
use Rattle.host_block.proofs.Positions.{part_put, position_within}
use Rattle.host_block.proofs.slot_table.SlotTable.set_base.Goals as goal

pub index_mut-requires : goal.index_mut-requires
index_mut-requires c =
    let t = c.place.new.self in
    let within = position_within t.tree.entries t.list.items c.place.ensures.indexed c.args.key.now c.in_ok-position.position c.in_ok-position.ensures.at in
    omega (arith, t.list.ok.0)

pub returns-clause-indexed : goal.returns-clause-indexed
returns-clause-indexed c =
    let t = c.place.new.self in
    let put : Slot → Slot = λ (s : Slot). record { base = Some c.args.content; change = s.change } in
    (part_put (table_slots c.args.self.now) t.tree.entries t.list.items c.place.ensures.indexed c.args.key.now c.in_ok-position.position c.in_ok-position.ensures.at put c.index_mut.result.now c.index_mut.ensures.value c.in_ok-position.ensures.stays).0

pub returns-clause-set : goal.returns-clause-set
returns-clause-set c =
    let t = c.place.new.self in
    let put : Slot → Slot = λ (s : Slot). record { base = Some c.args.content; change = s.change } in
    (part_put (table_slots c.args.self.now) t.tree.entries t.list.items c.place.ensures.indexed c.args.key.now c.in_ok-position.position c.in_ok-position.ensures.at put c.index_mut.result.now c.index_mut.ensures.value c.in_ok-position.ensures.stays).1
