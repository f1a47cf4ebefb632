use Rattle.std.proofs.Common.{◌≡◌, ◌++◌}
use Rattle.host_block.specs.Changes.{listed_changes}
use Rattle.host_block.specs.Slots.{slot_parts}
use Rattle.host_block.proofs.Slots.{listed_in}
use Rattle.host_block.proofs.listing.listed.Given as goal

abbrev pub invariant-loop-key : goal.invariant-loop-key
invariant-loop-key l = l.list.items ++ slot_parts listed_in l.key-iterator ≡ listed_changes l.touched.bases l.touched.changes
