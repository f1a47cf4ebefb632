use Rattle.std.proofs.Common.{◌∙◌, ap, subst, sym}
use Rattle.rv_ledger.specs.Positions.{AreWithin, EntryList, Positions, in_order}
use Rattle.rv_ledger.proofs.Positions.{in_order_sorted, position_within}
use Rattle.rv_ledger.proofs.Ranges.{in_order_from}
use Rattle.rv_ledger.proofs.entry_table.EntryTable.iter_from.Goals as goal

pub new-requires : goal.new-requires
new-requires c =
    let t = c.args.self.now in
    subst (λ (list : EntryList). AreWithin c.range.result list) (sym c.as_slice.ensures.value)
    (λ k d l. position_within t.tree.entries t.list.items c.requires _ _ ((c.range.ensures.in_range tt).0 k d l).1)

pub returns-clause-all : goal.returns-clause-all
returns-clause-all c =
    let t = c.args.self.now in
    c.new.ensures ∙ ap (λ (ps : Positions). in_order ps c.as_slice.result.now) (c.range.ensures.between tt)
    ∙ ap (in_order _) c.as_slice.ensures.value ∙ in_order_from c.args.from.now t.tree.entries t.list.items

pub returns-clause-ascending : goal.returns-clause-ascending
returns-clause-ascending c = in_order_sorted c.args.self.now.tree.entries c.args.self.now.list.items c.range.ensures.ordered
