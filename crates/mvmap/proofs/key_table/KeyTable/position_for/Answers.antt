use Rattle.std.proofs.Common.{OnOk, subst, sym, ◌∙◌}
use Rattle.mvmap.specs.KeyTable.{AreSlotsSetAt, positions_of, slots_by_key}
use Rattle.mvmap.specs.Writers.{ByWriter}
use Rattle.mvmap.proofs.KeyTables.{no_writers_in_order, stays}
use Rattle.mvmap.proofs.key_table.KeyTable.position_for.Goals as goal

pub returns-in-Some-clause-set : goal.returns-in-Some-clause-set
returns-in-Some-clause-set c =
    let t = c.args.self.now in
    stays (positions_of t.list.items) t.list.items c.args.key.now c.in-Some.position (sym c.find.ensures ∙ c.in-Some.is)

pub returns-in-None-clause-set : goal.returns-in-None-clause-set
returns-in-None-clause-set c =
    let t = c.args.self.now in
    subst (λ (ws : ByWriter). OnOk c.add.result (AreSlotsSetAt (slots_by_key t) (slots_by_key c.add.new.self) c.args.key.now ws))
    (sym (no_writers_in_order (positions_of t.list.items) t.list.items c.args.key.now (sym c.find.ensures ∙ c.in-None.is))) c.add.ensures.set
