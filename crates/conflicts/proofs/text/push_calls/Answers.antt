use Rattle.std.proofs.Common.{ap, arith, drop, slice_index, ◌∙◌, ◌∷◌, ◌+◌}
use Rattle.std.proofs.lemmas.List.{drop_all, get_or_default}
use Rattle.std.specs.List.{enumerate_from, flat_map, zip}
use Rattle.receipts.proofs.Buffers.{appended_more, appended_whole, next_left, none_yet}
use Rattle.conflicts.specs.Text.{conflict_lines}
use Rattle.conflicts.proofs.text.push_calls.Goals as goal

pub loop-index-init : goal.loop-index-init
loop-index-init g c = none_yet _ _ _

pub loop-index-preserved : goal.loop-index-preserved
loop-index-preserved g c =
    let i = c.loop-index.index in
    let path = slice_index c.args.paths.now i in
    let calls = next_left c.args.calls.now i c.index-calls-index.result c.index-calls-index.is (omega arith) in
    let paths = next_left c.args.paths.now i path (get_or_default c.args.paths.now i 0 path (omega (arith, c.requires))) (omega (arith, c.requires)) in
    appended_more _ c.loop-index.invariant c.push_call.ensures
    (ap (λ left. flat_map conflict_lines (enumerate_from i (zip left (path ∷ drop (i + 1) c.args.paths.now)))) calls
    ∙ ap (λ left. flat_map conflict_lines (enumerate_from i (zip (drop i c.args.calls.now) left))) paths)

pub returns : goal.returns
returns g c =
    appended_whole _ c.loop-index.invariant
    (ap (λ left. flat_map conflict_lines (enumerate_from c.loop-index.index (zip left (drop c.loop-index.index c.args.paths.now)))) (drop_all c.loop-index.index c.args.calls.now (omega arith)))
