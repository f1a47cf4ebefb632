use Rattle.std.proofs.Common.{◌∙◌, ◌++◌, ℕ, List, ap}
use Rattle.host_block.specs.Ordered.{sum_keys}
use Rattle.host_block.specs.Positions.{SlotList}
use Rattle.host_block.specs.Slots.{slot_change, slot_parts}
use Rattle.host_block.proofs.Slots.{sums_at_start}
use Rattle.host_block.proofs.listing.sum_keys.Goals as goal

pub loop-key-init : goal.loop-key-init
loop-key-init c =
    ap (λ (xs : List (List ℕ)). xs ++ sum_keys (slot_parts slot_change c.into_iter-key-iterator.result)) c.new-keys.ensures.items
    ∙ ap (λ (es : SlotList). sum_keys (slot_parts slot_change es)) c.into_iter-key-iterator.ensures.into_iter_gives ∙ sums_at_start c.iter-key-items.result c.args.touched.now c.iter-key-items.ensures
