use Rattle.std.proofs.Common.{[], ◌∷◌, ◌∙◌, ◌-◌, ap, arith, take, sym}
use Rattle.std.specs.List.{flat_map}
use Rattle.receipts.proofs.Buffers.{appended_more, nothing_appended}
use Rattle.receipts.specs.Text.{store_line}
use Rattle.session_turns.proofs.Listings.{next_listed}
use Rattle.session_turns.proofs.telling.push_listed.Goals as goal

pub loop-key-init : goal.loop-key-init
loop-key-init g c = ([], ap (λ entries. flat_map store_line (take c.args.count entries)) (c.into_iter-key-iterator.ensures.into_iter_gives ∙ c.iter_from-key-items.ensures), nothing_appended _ _)

pub loop-key-preserved : goal.loop-key-preserved
loop-key-preserved g c = appended_more _ c.loop-key.invariant c.push_entry.ensures (
    next_listed (c.in-Some.key.now, c.in-Some.value.now) c.next.new.self c.loop-key.key-iterator c.loop-key.left (c.loop-key.left - 1) (omega arith) c.in-Some.ensures.steps)
