use Rattle.std.proofs.Common.{◌∙◌, ap, sym}
use Rattle.mvmap.specs.KeyTable.{positions_of, slots_by_key}
use Rattle.mvmap.specs.Slots.{SlotsByPlace, slot_at}
use Rattle.mvmap.specs.Writers.{ByWriter, slot_of}
use Rattle.mvmap.proofs.KeyTables.{in_order_sorted, no_writers_in_order, writers_in_order}
use Rattle.mvmap.proofs.Nests.{at_writers}
use Rattle.mvmap.proofs.slots.Slots.at.Goals as goal

pub returns-in-Some-clause-slots : goal.returns-in-Some-clause-slots
returns-in-Some-clause-slots c = λ w.
    let t = c.self.inside.table in
    let key = c.args.key.now in
    ap (λ (es : SlotsByPlace). slot_at es (key, w)) (sym c.self.view_is)
    ∙ at_writers (slots_by_key t) (in_order_sorted (positions_of t.list.items) t.list.items c.self.invariant.positions) key w
    ∙ ap (λ (ws : ByWriter). slot_of ws w) (writers_in_order (positions_of t.list.items) t.list.items key c.in-Some.position (sym c.find.ensures ∙ c.in-Some.is) ∙ sym c.slots_at.ensures.all)

pub returns-in-None-clause-slots : goal.returns-in-None-clause-slots
returns-in-None-clause-slots c = λ w.
    let t = c.self.inside.table in
    let key = c.args.key.now in
    ap (λ (es : SlotsByPlace). slot_at es (key, w)) (sym c.self.view_is)
    ∙ at_writers (slots_by_key t) (in_order_sorted (positions_of t.list.items) t.list.items c.self.invariant.positions) key w
    ∙ ap (λ (ws : ByWriter). slot_of ws w) (no_writers_in_order (positions_of t.list.items) t.list.items key (sym c.find.ensures ∙ c.in-None.is))
