use Rattle.std.proofs.Common.{◌≡◌, ◌∙◌, ◌++◌, ◌∷◌, [], None, Some, ap, arith, length, subst, sym}
use Rattle.rv_ledger.specs.Positions.{position_of}
use Rattle.host_block.specs.Positions.{HavePositions, IsSlotPlaced, SlotList, table_slots, ascending_slots, no_slot}
use Rattle.host_block.proofs.Positions.{added_in_order, added_indexed, back_indexed, back_placed, placed_last, slot_absent}
use Rattle.host_block.proofs.slot_table.SlotTable.place_by_tree.Goals as goal

pub returns-in-None-clause-indexed : goal.returns-in-None-clause-indexed
returns-in-None-clause-indexed c =
    let t = c.args.self.now in
    let last : c.len-last.result ≡ length t.list.items = omega (arith, t.list.ok.0) in
    let absent : position_of t.tree.entries c.args.key.now ≡ None = sym c.in_ok-insert.ensures.old ∙ c.in-None.is in
    subst (λ (list : SlotList). HavePositions c.insert.new.self.entries list) (sym (c.push_reserved.ensures.items ∙ ap (λ (list : SlotList). list ++ (c.args.key.now, no_slot) ∷ []) c.reserve.ensures.items))
    (added_indexed t.tree.entries c.insert.new.self.entries t.list.items c.requires c.args.key.now no_slot absent c.len-last.result last c.in_ok-insert.ensures.updates.0)

pub returns-in-None-clause-stays : goal.returns-in-None-clause-stays
returns-in-None-clause-stays c =
    let t = c.args.self.now in
    let after = c.insert.new.self.entries in
    let last : c.len-last.result ≡ length t.list.items = omega (arith, t.list.ok.0) in
    let absent : position_of t.tree.entries c.args.key.now ≡ None = sym c.in_ok-insert.ensures.old ∙ c.in-None.is in
    subst (λ (list : SlotList). IsSlotPlaced (table_slots t) (ascending_slots after list) c.args.key.now) (sym (c.push_reserved.ensures.items ∙ ap (λ (list : SlotList). list ++ (c.args.key.now, no_slot) ∷ []) c.reserve.ensures.items))
    (placed_last (table_slots t) (ascending_slots after (t.list.items ++ (c.args.key.now, no_slot) ∷ [])) c.args.key.now (slot_absent t.tree.entries t.list.items c.args.key.now absent)
    (added_in_order t.tree.entries after t.list.items c.requires c.args.key.now no_slot absent c.len-last.result last c.in_ok-insert.ensures.updates.0))

pub returns-in-Ok-clause-indexed : goal.returns-in-Ok-clause-indexed
returns-in-Ok-clause-indexed c =
    let t = c.args.self.now in
    let at : position_of t.tree.entries c.args.key.now ≡ Some c.in-Some.position = sym c.in_ok-insert.ensures.old ∙ c.in-Some.is in
    subst (λ (list : SlotList). HavePositions c.insert-in-Some.new.self.entries list) (sym c.reserve.ensures.items)
    (back_indexed t.tree.entries c.insert.new.self.entries c.insert-in-Some.new.self.entries t.list.items c.args.key.now c.len-last.result c.in-Some.position at c.in_ok-insert.ensures.updates.0 c.in-Ok.ensures.updates.0 c.requires)

pub returns-in-Ok-clause-stays : goal.returns-in-Ok-clause-stays
returns-in-Ok-clause-stays c =
    let t = c.args.self.now in
    let after = c.insert-in-Some.new.self.entries in
    let at : position_of t.tree.entries c.args.key.now ≡ Some c.in-Some.position = sym c.in_ok-insert.ensures.old ∙ c.in-Some.is in
    subst (λ (list : SlotList). IsSlotPlaced (table_slots t) (ascending_slots after list) c.args.key.now) (sym c.reserve.ensures.items)
    (back_placed t.tree.entries c.insert.new.self.entries after t.list.items c.args.key.now c.len-last.result c.in-Some.position at c.in_ok-insert.ensures.updates.0 c.in-Ok.ensures.updates.0)
