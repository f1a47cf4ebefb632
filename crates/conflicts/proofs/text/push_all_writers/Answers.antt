use Rattle.std.proofs.Common.{ap, arith}
use Rattle.std.proofs.lemmas.List.{drop_all}
use Rattle.std.specs.List.{flat_map}
use Rattle.receipts.proofs.Buffers.{appended_more, appended_whole, next_left, none_yet}
use Rattle.conflicts.specs.Text.{writers_line}
use Rattle.conflicts.proofs.text.push_all_writers.Goals as goal

pub loop-key-init : goal.loop-key-init
loop-key-init g c = none_yet _ _ _

pub loop-key-preserved : goal.loop-key-preserved
loop-key-preserved g c = appended_more _ c.loop-key.invariant c.push_writers.ensures (ap (flat_map writers_line) (next_left c.args.keys.now c.loop-key.key-index c.key-item.result c.key-item.is (omega arith)))

pub returns : goal.returns
returns g c = appended_whole _ c.loop-key.invariant (ap (flat_map writers_line) (drop_all c.loop-key.key-index c.args.keys.now (omega arith)))
