use Rattle.std.proofs.Common.{◌≡◌, Some, arith, refl, sym, ◌∙◌}
use Rattle.std.specs.Option.{option_map}
use Rattle.rv_ledger.specs.Positions.{position_of}
use Rattle.mvmap.specs.KeyTable.{positions_of, slots_by_key}
use Rattle.mvmap.proofs.Fills.{put_nowhere}
use Rattle.mvmap.proofs.KeyTables.{in_order_sorted, none_in_order, position_within, set_found, set_in_order, set_indexed, slots_were}
use Rattle.mvmap.proofs.Nests.{changed_at, no_key}
use Rattle.mvmap.proofs.slots.Slots.put.Goals as goal

pub index_mut-requires : goal.index_mut-requires
index_mut-requires c =
    let t = c.self.inside.table in
    let within = position_within (positions_of t.list.items) t.list.items c.self.invariant.positions c.args.key.now c.in-Some.position (sym c.find.ensures ∙ c.in-Some.is) in
    omega (arith, t.list.ok.0)

pub invariant_of-self : goal.invariant_of-self
invariant_of-self c =
    let t = c.self.inside.table in
    record {
      positions = set_indexed t.list.items c.self.invariant.positions c.args.key.now c.in-Some.position (sym c.find.ensures ∙ c.in-Some.is) c.index_mut.result.now c.index_mut.ensures.value c.put.new.self;
      searched = set_found t.list.items c.self.invariant.positions c.args.key.now c.in-Some.position (sym c.find.ensures ∙ c.in-Some.is) c.index_mut.result.now c.index_mut.ensures.value c.put.new.self t.hints.buckets.items t.others.entries c.self.invariant.searched;
    }

pub returns-in-Some : goal.returns-in-Some
returns-in-Some c =
    let t = c.self.inside.table in
    let es = positions_of t.list.items in
    let key = c.args.key.now in
    let at : position_of es key ≡ Some c.in-Some.position = sym c.find.ensures ∙ c.in-Some.is in
    let was = c.index_mut.result.now in
    let is = c.index_mut.ensures.value in
    changed_at (slots_by_key t) _ key c.put.new.self c.args.writer c.args.self.now c.self.view_is (in_order_sorted es t.list.items c.self.invariant.positions) (in_order_sorted _ _ (invariant_of-self c).positions)
    (set_in_order t.list.items c.self.invariant.positions key c.in-Some.position at was is c.put.new.self) was.writers
    (slots_were t.list.items c.self.invariant.positions key c.in-Some.position at was is c.put.new.self) (option_map (λ _. c.args.slot)) c.put.ensures

pub returns-in-None : goal.returns-in-None
returns-in-None c =
    let t = c.self.inside.table in
    let none = none_in_order (positions_of t.list.items) t.list.items c.args.key.now (sym c.find.ensures ∙ c.in-None.is) in
    put_nowhere c.args.self.now _ (c.args.key.now, c.args.writer) c.args.slot
    (no_key (slots_by_key t) c.args.key.now c.args.writer c.args.self.now c.self.view_is (in_order_sorted (positions_of t.list.items) t.list.items c.self.invariant.positions) none) refl
