use Rattle.std.proofs.Common.{rules}
use Rattle.std.proofs.lemmas.List.Sorted.{answers_always}
use Rattle.std.specs.Cmp.{nat_cmp_total}
use Rattle.std.specs.FinMap.{nat_cmp-IsAntisymmetric}
use Rattle.rv_ledger.proofs.Searches.{searched}
use Rattle.mvmap.proofs.Searches.{gap_at_end}
use Rattle.mvmap.proofs.writers.WriterSlots.search.Goals as goal

pub returns-in-Some-clause-absent : goal.returns-in-Some-clause-absent
returns-in-Some-clause-absent c =
    rw (← c.self.view_is, ← c.as_slice-slots.ensures) (gap_at_end c.as_slice-slots.result.now (rw c.as_slice-slots.ensures c.self.invariant) c.args.writer c.in-Some.slot.now c.in-Some.ensures.value c.if-slot-writer.true)

pub returns-in_default : goal.returns-in_default
returns-in_default c =
    let facts = c.binary_search_by_key.ensures in
    let by_writer = facts.position (λ e. e.0) (answers_always _ _ _ (λ f a r g called. search rules)) in
    rw (← c.self.view_is, ← c.as_slice-slots.ensures) (searched nat_cmp_total nat_cmp-IsAntisymmetric c.as_slice-slots.result.now c.args.writer (rw c.as_slice-slots.ensures c.self.invariant) _ facts.bound by_writer)
