use Rattle.std.proofs.Common.{ap, arith, drop, map, slice_index, sym, ◌∙◌, ◌∷◌, ◌++◌, ◌+◌}
use Rattle.std.proofs.lemmas.List.{drop_all, get_or_default}
use Rattle.std.specs.Fmt.{decimal}
use Rattle.receipts.proofs.Buffers.{appended_all, appended_more, next_left, none_yet}
use Rattle.receipts.specs.Text.{more_fields}
use Rattle.conflicts.proofs.text.push_more_calls.Goals as goal

pub loop-call-init : goal.loop-call-init
loop-call-init g c = none_yet _ _ _

pub loop-call-preserved : goal.loop-call-preserved
loop-call-preserved g c =
    let calls = c.args.calls.now in
    let i = c.loop-call.call-index in
    let call = slice_index calls i in
    appended_more (more_fields (map decimal (drop (i + 1) calls))) c.loop-call.invariant c.push_numbered.ensures
    (ap (λ n. 32 ∷ (decimal n ++ more_fields (map decimal (drop (i + 1) calls)))) c.from.ensures
    ∙ ap (λ l. more_fields (map decimal l)) (next_left calls i call (get_or_default calls i 0 call (omega arith)) (omega arith)))

pub returns : goal.returns
returns g c = appended_all c.loop-call.invariant c.push.ensures (ap (λ l. more_fields (map decimal l)) (sym (drop_all c.loop-call.call-index c.args.calls.now (omega arith))))
