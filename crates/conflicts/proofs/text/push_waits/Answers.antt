use Rattle.std.proofs.Common.{ap, arith}
use Rattle.std.proofs.lemmas.List.{drop_all}
use Rattle.std.specs.List.{flat_map}
use Rattle.receipts.proofs.Buffers.{appended_more, appended_whole, next_left, none_yet}
use Rattle.conflicts.specs.Text.{wait_line}
use Rattle.conflicts.proofs.text.push_waits.Goals as goal

pub loop-wait-init : goal.loop-wait-init
loop-wait-init g c = none_yet _ _ _

pub loop-wait-preserved : goal.loop-wait-preserved
loop-wait-preserved g c = appended_more _ c.loop-wait.invariant c.push_wait.ensures (ap (flat_map (wait_line c.args.index)) (next_left c.args.waits.now c.loop-wait.wait-index c.wait-item.result c.wait-item.is (omega arith)))

pub returns : goal.returns
returns g c = appended_whole _ c.loop-wait.invariant (ap (flat_map (wait_line c.args.index)) (drop_all c.loop-wait.wait-index c.args.waits.now (omega arith)))
