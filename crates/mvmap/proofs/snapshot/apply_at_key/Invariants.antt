use Rattle.std.proofs.Common.{◌≡◌, ℕ, List, drop}
use Rattle.std.specs.FinMap as map
use Rattle.mvmap.specs.Slots.{at_places, value_over_slots}
use Rattle.mvmap.proofs.snapshot.apply_at_key.Given as goal

abbrev pub invariant-loop-slot : goal.invariant-loop-slot
invariant-loop-slot l = (k : List ℕ) → value_over_slots l.arena.records (at_places l.key (drop l.slot-index l.at_key)) k (map.get l.store k) ≡ value_over_slots l.arena.records (at_places l.key l.at_key) k (map.get l.fn.store k)
