use Rattle.host_block.proofs.Positions.{placed_there}
use Rattle.host_block.proofs.slot_table.SlotTable.place.Goals as goal

pub returns-in-Some-clause-stays : goal.returns-in-Some-clause-stays
returns-in-Some-clause-stays c =
    let t = c.args.self.now in
    placed_there t.tree.entries t.list.items c.args.key.now c.in-Some.position (c.requires.indexed c.args.key.now c.in-Some.position (c.stands_at.ensures.0 c.if-stands_at.true))
