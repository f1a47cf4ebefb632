use Rattle.std.proofs.Common.{◌∙◌, List, ap, arith, sym, subst}
use Rattle.std.specs.FinMap as map
use Rattle.std.specs.List.Sorted.{IsStrictlySortedBy}
use Rattle.std.specs.Map.{keys_of}
use Rattle.mvmap.specs.KeyTable.{AreSlotsIndexed, positions_of, slots_by_key, slots_in_order}
use Rattle.mvmap.specs.Slots.{SlotsByPlace, at_places, flat, value_over_slots}
use Rattle.mvmap.specs.Versions.{place_cmp}
use Rattle.mvmap.specs.Writers.{ByWriter}
use Rattle.mvmap.specs.declared.key_table.KeySlots.{KeySlots}
use Rattle.mvmap.proofs.Applied.{all_ascending, all_before, next_applied, next_ascending, none_before}
use Rattle.mvmap.proofs.KeyTables.{in_order_sorted}
use Rattle.mvmap.proofs.Nests.{AreAllAscending, flat_sorted}
use Rattle.mvmap.proofs.snapshot.apply_slots.Goals as goal

pub loop-at_key-init : goal.loop-at_key-init
loop-at_key-init c = record {
  values = λ k. ap (λ (ws : ByWriter). value_over_slots c.args.arena.now.records (at_places k ws) k (map.get c.args.store.now k)) (sym (none_before (positions_of c.deref-at_key-items.result.now) c.deref-at_key-items.result.now k));
  ascending = λ p l. absurd (omega arith);
}

pub loop-at_key-preserved : goal.loop-at_key-preserved
loop-at_key-preserved c =
    let rs = c.args.arena.now.records in
    let list = c.deref-at_key-items.result.now in
    let h = subst (λ (xs : List KeySlots). AreSlotsIndexed (positions_of xs) xs) (sym c.deref-at_key-items.ensures.value) c.slots.invariant.positions in
    let s = c.at_key-item.result in
    let i = c.loop-at_key.at_key-index in
    record {
      values = λ k.
          c.in_ok-apply_at_key.ensures k
          ∙ ap (λ (ws : ByWriter). value_over_slots rs (at_places s.key ws) k (map.get c.loop-at_key.store k)) c.as_slice.ensures.all
          ∙ ap (value_over_slots rs (at_places s.key s.writers) k) (c.loop-at_key.invariant.values k)
          ∙ next_applied rs (positions_of list) list h i s c.loop-at_key-test.true c.at_key-item.is k (map.get c.args.store.now k);
      ascending = next_ascending rs (positions_of list) list h i s c.loop-at_key-test.true c.at_key-item.is c.as_slice.ensures.ascending c.loop-at_key.invariant.ascending;
    }

pub returns-clause-values : goal.returns-clause-values
returns-clause-values c = λ k.
    let rs = c.args.arena.now.records in
    let list = c.deref-at_key-items.result.now in
    let base = map.get c.args.store.now k in
    let h = subst (λ (xs : List KeySlots). AreSlotsIndexed (positions_of xs) xs) (sym c.deref-at_key-items.ensures.value) c.slots.invariant.positions in
    c.loop-at_key.invariant.values k
    ∙ all_before rs (positions_of list) list h c.loop-at_key.at_key-index c.loop-at_key-test.false k base
    ∙ ap (λ (xs : List KeySlots). value_over_slots rs (flat (slots_in_order (positions_of xs) xs)) k base) c.deref-at_key-items.ensures.value
    ∙ ap (λ (es : SlotsByPlace). value_over_slots rs es k base) c.slots.view_is

pub returns-clause-ordered : goal.returns-clause-ordered
returns-clause-ordered c =
    let t = c.slots.inside.table in
    let list = c.deref-at_key-items.result.now in
    subst (λ (es : SlotsByPlace). IsStrictlySortedBy place_cmp (keys_of es)) c.slots.view_is
    (flat_sorted (slots_by_key t) (in_order_sorted (positions_of t.list.items) t.list.items c.slots.invariant.positions)
    (subst (λ (xs : List KeySlots). AreAllAscending (slots_in_order (positions_of xs) xs)) c.deref-at_key-items.ensures.value (all_ascending (positions_of list) list c.loop-at_key.at_key-index c.loop-at_key-test.false c.loop-at_key.invariant.ascending)))
