use Rattle.std.proofs.Common.{◌∙◌, ◌≡◌, false, true, ap, arith, is_some, set, subst, sym, IsSome}
use Rattle.mvmap.specs.KeyTable.{positions_of, slots_by_key, slots_in_order, writers_at}
use Rattle.mvmap.specs.Slots.{ByKey, SlotsByPlace, flat, slot_at}
use Rattle.mvmap.specs.Writers.{ByWriter, slot_of}
use Rattle.mvmap.proofs.KeyTables.{in_order_sorted, none_in_order, position_within, set_found, set_in_order, set_indexed, set_twice, set_writers, slots_were}
use Rattle.mvmap.proofs.Nests.{IsMade, at_writers, made_apart, made_at, made_opened, made_there, no_key}
use Rattle.mvmap.proofs.slots.Slots.open.Goals as goal

pub returns-in_err-position-clause-succeeds : goal.returns-in_err-position-clause-succeeds
returns-in_err-position-clause-succeeds c = λ there.
    let t = c.self.inside.table in
    let absent = none_in_order (positions_of t.list.items) t.list.items c.args.key.now c.in_err-position.ensures.absent in
    let none = no_key (slots_by_key t) c.args.key.now c.args.writer c.args.self.now c.self.view_is (in_order_sorted (positions_of t.list.items) t.list.items c.self.invariant.positions) absent in
    let neither : false ≡ true = sym (ap is_some none) ∙ there in cc

pub index_mut-requires : goal.index_mut-requires
index_mut-requires c =
    let t = c.position_for.new.self in
    let within = position_within (positions_of t.list.items) t.list.items c.position_for.ensures.indexed.positions c.args.key.now c.in_ok-position.position c.in_ok-position.ensures.position in
    omega (arith, t.list.ok.0)

pub invariant_of-self-2 : goal.invariant_of-self-2
invariant_of-self-2 c =
    let t = c.position_for.new.self in
    record {
      positions = set_indexed t.list.items c.position_for.ensures.indexed.positions c.args.key.now c.in_ok-position.position c.in_ok-position.ensures.position c.index_mut.result.now c.index_mut.ensures.value c.open.new.self;
      searched = set_found t.list.items c.position_for.ensures.indexed.positions c.args.key.now c.in_ok-position.position c.in_ok-position.ensures.position c.index_mut.result.now c.index_mut.ensures.value c.open.new.self t.hints.buckets.items t.others.entries c.position_for.ensures.indexed.searched;
    }

was : (c : goal.After-self-1) → c.index_mut.result.now.writers ≡ writers_at (slots_by_key c.self.inside.table) c.args.key.now
was c =
    let t = c.position_for.new.self in
    slots_were t.list.items c.position_for.ensures.indexed.positions c.args.key.now c.in_ok-position.position c.in_ok-position.ensures.position c.index_mut.result.now c.index_mut.ensures.value c.open.new.self
    ∙ set_writers (slots_by_key c.self.inside.table) (slots_by_key t) c.args.key.now _ c.in_ok-position.ensures.set

abbrev after : (c : goal.After-self-1) → ByKey
after c =
    let list = set c.position_for.new.self.list.items c.in_ok-position.position (record { key = c.index_mut.result.now.key; writers = c.open.new.self }) in
    slots_in_order (positions_of list) list

made : (c : goal.After-self-1) → IsMade c.args.self.now (flat (after c)) (c.args.key.now, c.args.writer) c.open.result
made c =
    let old = c.self.inside.table in
    let t = c.position_for.new.self in
    let changed = set_in_order t.list.items c.position_for.ensures.indexed.positions c.args.key.now c.in_ok-position.position c.in_ok-position.ensures.position c.index_mut.result.now c.index_mut.ensures.value c.open.new.self in
    made_at (slots_by_key old) (after c) c.args.key.now c.open.new.self c.args.writer c.args.self.now c.self.view_is (in_order_sorted (positions_of old.list.items) old.list.items c.self.invariant.positions) (in_order_sorted _ _ (invariant_of-self-2 c).positions)
    (set_twice (slots_by_key old) (slots_by_key t) (after c) c.args.key.now _ c.open.new.self c.in_ok-position.ensures.set changed) c.index_mut.result.now.writers (was c) c.open.result c.open.ensures.ok c.open.ensures.err

pub returns-clause-opened : goal.returns-clause-opened
returns-clause-opened c = made_opened _ _ _ _ (made c)

pub returns-clause-ok : goal.returns-clause-ok
returns-clause-ok c = made_there _ _ _ _ (made c)

pub returns-clause-elsewhere : goal.returns-clause-elsewhere
returns-clause-elsewhere c = made_apart _ _ _ _ (made c)

pub returns-clause-succeeds : goal.returns-clause-succeeds
returns-clause-succeeds c = λ there.
    let t = c.self.inside.table in
    c.open.ensures.succeeds (subst (λ o. IsSome o)
    (ap (λ (es : SlotsByPlace). slot_at es (c.args.key.now, c.args.writer)) (sym c.self.view_is)
    ∙ at_writers (slots_by_key t) (in_order_sorted (positions_of t.list.items) t.list.items c.self.invariant.positions) c.args.key.now c.args.writer
    ∙ ap (λ (ws : ByWriter). slot_of ws c.args.writer) (sym (was c)))
    there)
