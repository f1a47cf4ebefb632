use Rattle.std.proofs.Common.{◌∙◌, sym, arith}
use Rattle.std.proofs.lemmas.Result.{on_ok_weaker}
use Rattle.conflicts.proofs.Counted.{count_after, some_calls, waits_at_once}
use Rattle.conflicts.proofs.in_order.count_calls.Goals as goal

pub add-requires : goal.add-requires
add-requires c =
    let is = count_after c.args.key c.args.calls.now c.args.counts.now (some_calls c.args.calls.now c.if-is_empty.ensures) in
    omega (arith, is, c.requires)

pub returns : goal.returns
returns c =
    on_ok_weaker c.add.result (λ added. added ∙ sym (waits_at_once c.args.key c.args.calls.now c.args.counts.now (some_calls c.args.calls.now c.if-is_empty.ensures))) c.add.ensures
