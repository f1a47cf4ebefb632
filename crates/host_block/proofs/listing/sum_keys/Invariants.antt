use Rattle.std.proofs.Common.{◌≡◌, ◌++◌}
use Rattle.std.specs.FinMap as map
use Rattle.host_block.specs.Ordered.{sum_keys}
use Rattle.host_block.specs.Slots.{slot_change, slot_parts}
use Rattle.host_block.proofs.listing.sum_keys.Given as goal

abbrev pub invariant-loop-key : goal.invariant-loop-key
invariant-loop-key l = l.keys.items ++ sum_keys (slot_parts slot_change l.key-iterator) ≡ sum_keys (map.entries l.touched.changes)
