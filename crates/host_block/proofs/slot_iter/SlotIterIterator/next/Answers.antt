use Rattle.std.proofs.Common.{◌∙◌, ◌∷◌, ℕ, List, ap, arith, subst}
use Rattle.std.specs.Map.Iter.{TakesFirst, deref_pair}
use Rattle.std.proofs.lemmas.Map.Iter.{rest_more}
use Rattle.rv_ledger.specs.Positions.{Positions}
use Rattle.host_block.specs.Positions.{SlotList, ascending_slots}
use Rattle.host_block.specs.declared.slot.Slot.{Slot}
use Rattle.host_block.proofs.Positions.{first_within, rest_within, slot_found}
use Rattle.rv_ledger.proofs.Steps.{none_left}
use Rattle.host_block.proofs.slot_iter.SlotIterIterator.next.Goals as goal
use Rattle.host_block.proofs.slot_iter.SlotIterIterator.next.Goals.{in-Some, in-None}

pub bounds-self-inside-position : goal.bounds-self-inside-position
bounds-self-inside-position c =
    let taken = rest_more deref_pair c.self.inside.positions c.next.new.self c.next.result (c.in-Some.key, c.in-Some.position) c.in-Some.is c.next.ensures.steps in
    first_within c.self.inside.list.now c.self.inside.positions c.next.new.self (c.in-Some.key.now, c.in-Some.position.now) taken c.self.invariant

pub invariant_of-self : goal.invariant_of-self
invariant_of-self c = rest_within c.self.inside.list.now c.self.inside.positions c.next.new.self c.next.result c.next.ensures.steps c.self.invariant

pub returns-clause-steps : goal.returns-clause-steps
returns-clause-steps c =
    let list = c.self.inside.list.now in
    let old = c.self.inside.positions in
    let new = c.next.new.self in
    subst (λ (s : SlotList). TakesFirst deref_pair s c.match-next.result (ascending_slots new list)) c.self.view_is (elim c.match-next.branch [
      | in-Some w ↦
          let taken = rest_more deref_pair old new c.next.result (w.in-Some.key, w.in-Some.position) w.in-Some.is c.next.ensures.steps in
          let within = first_within list old new (w.in-Some.key.now, w.in-Some.position.now) taken c.self.invariant in
          rw w.result-is (ap (λ (ps : Positions). ascending_slots ps list) taken
          ∙ ap (λ (v : Slot). (w.in-Some.key.now, v) ∷ ascending_slots new list) (slot_found list w.in-Some.position.now w.index-self-position.result within w.index-self-position.is ∙ ap (λ (e : List ℕ × Slot). e.1) w.index-self-position.is))
      | in-None w ↦
          let none = none_left old new c.next.result w.in-None.is c.next.ensures.steps in
          rw w.result-is (ap (λ (ps : Positions). ascending_slots ps list) none.0, ap (λ (ps : Positions). ascending_slots ps list) none.1)
    ])

pub offset_bounds-self-inside-position : goal.offset_bounds-self-inside-position
offset_bounds-self-inside-position c =
    let taken = rest_more deref_pair c.self.inside.positions c.next.new.self c.next.result (c.in-Some.key, c.in-Some.position) c.in-Some.is c.next.ensures.steps in
    let within = first_within c.self.inside.list.now c.self.inside.positions c.next.new.self (c.in-Some.key.now, c.in-Some.position.now) taken c.self.invariant in
    record { fits = omega (arith, within, c.self.told) }
