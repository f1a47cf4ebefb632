use Rattle.std.proofs.Common.{◌∙◌, ◌++◌, ℕ, List, ap}
use Rattle.rv_ledger.specs.Change.{Content}
use Rattle.host_block.specs.Slots.{slot_parts}
use Rattle.host_block.proofs.Slots.{listed_at_start, listed_in}
use Rattle.host_block.proofs.listing.listed.Goals as goal

pub loop-key-init : goal.loop-key-init
loop-key-init c =
    ap (λ (xs : List (List ℕ × Content)). xs ++ slot_parts listed_in c.into_iter-key-iterator.result) c.in_ok-list.ensures.items
    ∙ ap (slot_parts listed_in) c.into_iter-key-iterator.ensures.into_iter_gives ∙ listed_at_start c.iter-key-items.result c.args.touched.now c.iter-key-items.ensures
