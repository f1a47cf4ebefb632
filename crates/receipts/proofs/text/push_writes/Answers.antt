use Rattle.std.proofs.Common.{ap}
use Rattle.std.proofs.lemmas.List.{drop_all}
use Rattle.std.specs.FinMap.{entries}
use Rattle.std.specs.List.{flat_map}
use Rattle.receipts.proofs.Buffers.{appended_more, appended_whole, next_left, none_yet}
use Rattle.receipts.specs.Text.{write_line}
use Rattle.receipts.proofs.text.push_writes.Goals as goal

pub loop-key-init : goal.loop-key-init
loop-key-init g c = none_yet _ _ _

pub loop-key-preserved : goal.loop-key-preserved
loop-key-preserved g c =
    appended_more _ c.loop-key.invariant c.push_write.ensures (ap (flat_map (write_line c.args.index)) (next_left (entries c.args.writes.now) c.loop-key.key-index c.loop-key-item.result (rw c.as_slice-key-items.ensures at c.loop-key-item.is) (rw (← c.as_slice-key-items.ensures) c.loop-key-test.true)))

pub returns : goal.returns
returns g c = appended_whole _ c.loop-key.invariant (ap (flat_map (write_line c.args.index)) (drop_all c.loop-key.key-index (entries c.args.writes.now) (rw (← c.as_slice-key-items.ensures) c.loop-key-test.false)))
