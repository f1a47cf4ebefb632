use Rattle.std.proofs.Common.{[], ◌∙◌, ap, sym}
use Rattle.std.specs.List.{flat_map}
use Rattle.receipts.proofs.Buffers.{appended_more, appended_whole, nothing_appended}
use Rattle.receipts.specs.Text.{store_line}
use Rattle.session_turns.proofs.dump.push_store.Goals as goal

pub loop-key-init : goal.loop-key-init
loop-key-init g c = ([], ap (flat_map store_line) (c.into_iter-key-iterator.ensures.into_iter_gives ∙ c.iter-key-items.ensures), nothing_appended _ _)

pub loop-key-preserved : goal.loop-key-preserved
loop-key-preserved g c = appended_more _ c.loop-key.invariant c.push_entry.ensures (ap (flat_map store_line) (sym c.in-Some.ensures.steps))

pub returns : goal.returns
returns g c = appended_whole _ c.loop-key.invariant (ap (flat_map store_line) c.in-None.ensures.steps.0)
