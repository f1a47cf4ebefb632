use Rattle.std.proofs.Common.{◌∙◌, Some, arith, ap, sym}
use Rattle.std.specs.Option.{option_map}
use Rattle.host_block.specs.Positions.{slot_in}
use Rattle.host_block.proofs.Positions.{lookup_in_order, position_within, slot_found}
use Rattle.host_block.proofs.slot_table.SlotTable.get.Goals as goal

pub index-requires : goal.index-requires
index-requires c =
    let t = c.args.self.now in
    let within = position_within t.tree.entries t.list.items c.requires c.args.key.now c.in-Some.position (sym c.find.ensures ∙ c.in-Some.is) in
    omega (arith, t.list.ok.0)

pub returns-in-Some : goal.returns-in-Some
returns-in-Some c =
    let t = c.args.self.now in
    let key = c.args.key.now in
    let within = position_within t.tree.entries t.list.items c.requires key c.in-Some.position (sym c.find.ensures ∙ c.in-Some.is) in
    ap Some (sym (slot_found t.list.items c.in-Some.position c.index.result.now within c.index.ensures))
    ∙ sym (lookup_in_order t.tree.entries t.list.items key ∙ ap (option_map (slot_in t.list.items)) (sym c.find.ensures ∙ c.in-Some.is))

pub returns-in-None : goal.returns-in-None
returns-in-None c =
    let t = c.args.self.now in
    sym (lookup_in_order t.tree.entries t.list.items c.args.key.now ∙ ap (option_map (slot_in t.list.items)) (sym c.find.ensures ∙ c.in-None.is))
