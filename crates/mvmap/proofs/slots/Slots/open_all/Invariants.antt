use Rattle.std.proofs.Common.{◌≡◌, ◌≢◌, ℕ, ◌<◌, IsSome, get_or}
use Rattle.std.specs.List.{All}
use Rattle.mvmap.specs.Versions.{Place}
use Rattle.mvmap.specs.Slots.{AreSlotsOpened, slot_at}
use Rattle.mvmap.proofs.slots.Slots.open_all.Given as goal

abbrev pub invariant-loop-key : goal.invariant-loop-key
invariant-loop-key l = record {
  opened : AreSlotsOpened l.fn.self l.self;
  made : (k : ℕ) (d : _) → k < l.key-index → IsSome (slot_at l.self ((get_or l.writes k d).0, l.writer));
  elsewhere : (place : Place) → All (λ write. (write.0, l.writer) ≢ place) l.writes → slot_at l.self place ≡ slot_at l.fn.self place;
}
