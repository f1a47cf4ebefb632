use Rattle.std.proofs.Common.{ap, arith}
use Rattle.std.proofs.lemmas.List.{drop_all}
use Rattle.std.specs.List.{enumerate_from, flat_map}
use Rattle.receipts.proofs.Buffers.{appended_more, appended_whole, next_left, none_yet}
use Rattle.receipts.specs.Brief.{lines_of_call}
use Rattle.receipts.proofs.brief.push_calls.Goals as goal

pub loop-index-init : goal.loop-index-init
loop-index-init g c = none_yet _ _ _

pub loop-index-preserved : goal.loop-index-preserved
loop-index-preserved g c =
    appended_more _ c.loop-index.invariant c.push_call.ensures (ap (λ receipts. flat_map (lines_of_call c.args.is_brief) (enumerate_from c.loop-index.index receipts)) (next_left c.args.receipts.now c.loop-index.index c.index-receipts-index.result c.index-receipts-index.is (omega arith)))

pub returns : goal.returns
returns g c = appended_whole _ c.loop-index.invariant (ap (λ receipts. flat_map (lines_of_call c.args.is_brief) (enumerate_from c.loop-index.index receipts)) (drop_all c.loop-index.index c.args.receipts.now (omega arith)))
