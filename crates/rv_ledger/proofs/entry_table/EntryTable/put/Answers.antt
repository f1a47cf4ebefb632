use Rattle.std.proofs.Common.{◌∙◌, arith, sym}
use Rattle.rv_ledger.proofs.Positions.{position_within, put_there}
use Rattle.rv_ledger.proofs.entry_table.EntryTable.put.Goals as goal

pub index_mut-requires : goal.index_mut-requires
index_mut-requires c =
    let t = c.args.self.now in
    let within = position_within t.tree.entries t.list.items c.requires c.args.key c.in-Some.position (sym c.find.ensures ∙ c.in-Some.is) in
    omega (arith, t.list.ok.0)

pub returns-in-Some-clause-indexed : goal.returns-in-Some-clause-indexed
returns-in-Some-clause-indexed c =
    (put_there c.args.self.now.tree.entries c.args.self.now.list.items c.requires c.args.key c.in-Some.position (sym c.find.ensures ∙ c.in-Some.is) c.args.value c.index_mut.result.now c.index_mut.ensures.value).0

pub returns-in-Some-clause-set : goal.returns-in-Some-clause-set
returns-in-Some-clause-set c =
    (put_there c.args.self.now.tree.entries c.args.self.now.list.items c.requires c.args.key c.in-Some.position (sym c.find.ensures ∙ c.in-Some.is) c.args.value c.index_mut.result.now c.index_mut.ensures.value).1
