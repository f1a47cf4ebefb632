use Rattle.std.proofs.Common.{subst, sym}
use Rattle.rv_ledger.specs.Positions.{Positions}
use Rattle.host_block.specs.Positions.{AreSlotsWithin, SlotList}
use Rattle.host_block.proofs.Positions.{all_within, in_order_sorted}
use Rattle.host_block.proofs.slot_table.SlotTable.iter.Goals as goal

pub new-requires : goal.new-requires
new-requires c =
    let t = c.args.self.now in
    subst (λ (ps : Positions). AreSlotsWithin ps c.as_slice.result.now) (sym c.iter.ensures.rest)
    (subst (λ (list : SlotList). AreSlotsWithin t.tree.entries list) (sym c.as_slice.ensures.value) (all_within t.tree.entries t.list.items c.requires c.iter.ensures.found))

pub returns-clause-ascending : goal.returns-clause-ascending
returns-clause-ascending c = in_order_sorted c.args.self.now.tree.entries c.args.self.now.list.items c.iter.ensures.ordered
