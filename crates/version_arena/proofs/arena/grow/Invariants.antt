use Rattle.std.proofs.Common.{◌≡◌, ◌≤◌, ◌-◌, length, max, take, vec_capacity}
use Rattle.version_arena.proofs.arena.grow.Given as goal

abbrev pub invariant-loop-stored : goal.invariant-loop-stored
invariant-loop-stored l = record {
  grows : length l.fn.stored.items ≤ length l.stored.items;
  limit : length l.stored.items ≤ max l.count (length l.fn.stored.items);
  room : l.count ≤ vec_capacity l.stored;
  begins : take (length l.fn.stored.items) l.stored.items ≡ l.fn.stored.items;
}

abbrev pub decreases-loop-stored : goal.decreases-loop-stored
decreases-loop-stored l = l.count - length l.stored.items
