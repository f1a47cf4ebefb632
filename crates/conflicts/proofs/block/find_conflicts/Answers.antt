use Rattle.std.proofs.Common.{◌≤◌, sym, ap, subst, ◌∙◌, length}
use Rattle.std.proofs.lemmas.List.FromFn.{length-map-range_with_len}
use Rattle.conflicts.specs.ByKey.{call_by_key}
use Rattle.conflicts.specs.Calls.{hot_keys}
use Rattle.conflicts.proofs.Counted.{keys_are}
use Rattle.conflicts.proofs.block.find_conflicts.Goals as goal

pub returns-clause-keys : goal.returns-clause-keys
returns-clause-keys c =
    let found = c.in_ok-calls.field-0 in
    c.in_ok-keys.ensures ∙ ap (hot_keys found.writers) c.in_ok-calls.ensures.waits
    ∙ keys_are c.args.job.now.block c.args.job.now.store found.writers c.in_ok-calls.ensures.writers

pub invariant_of-result-clause-few : goal.invariant_of-result-clause-few
invariant_of-result-clause-few c =
    let count = ap length c.in_ok-calls.ensures.calls ∙ length-map-range_with_len (call_by_key c.args.job.now.block c.args.job.now.store) 0 (length c.args.job.now.block) in
    subst (λ n. n ≤ 1024) (sym count) c.calls-calls.ensures.count

pub invariant_of-result-clause-each : goal.invariant_of-result-clause-each
invariant_of-result-clause-each c =
    let count = ap length c.in_ok-calls.ensures.calls ∙ length-map-range_with_len (call_by_key c.args.job.now.block c.args.job.now.store) 0 (length c.args.job.now.block) in
    c.in_ok-calls.ensures.count ∙ sym count
