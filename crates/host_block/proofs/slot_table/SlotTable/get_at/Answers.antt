use Rattle.std.proofs.Common.{◌≡◌, Some, arith, sym}
use Rattle.host_block.specs.Positions.{listed_key_at}
use Rattle.host_block.proofs.Positions.{key_within, slot_there}
use Rattle.host_block.proofs.slot_table.SlotTable.get_at.Goals as goal

pub index-requires : goal.index-requires
index-requires c =
    let t = c.args.self.now in
    let within = key_within t.list.items c.args.position c.args.key.now (c.stands_at.ensures.0 c.if-stands_at.true) in
    omega (arith, t.list.ok.0)

pub returns-then-stands_at : goal.returns-then-stands_at
returns-then-stands_at c =
    let t = c.args.self.now in
    let key = c.args.key.now in
    let there : listed_key_at t.list.items c.args.position ≡ Some key = c.stands_at.ensures.0 c.if-stands_at.true in
    sym (slot_there t.tree.entries t.list.items c.requires key c.args.position (c.requires.indexed key c.args.position there) c.index.result.now c.index.ensures)
