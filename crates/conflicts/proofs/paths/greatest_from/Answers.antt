use Rattle.std.proofs.Common.{◌≤◌, ◌+◌, drop, slice_index, ℕ, sym, ap, subst, ◌∙◌, arith}
use Rattle.std.proofs.lemmas.List.{get_or_default}
use Rattle.conflicts.specs.Greatest.{greater, greatest_from}
use Rattle.conflicts.specs.Waits.{waits_for}
use Rattle.conflicts.proofs.Longest.{next_left, next_within}
use Rattle.conflicts.proofs.paths.greatest_from.Goals as goal

pub loop-call-preserved : goal.loop-call-preserved
loop-call-preserved c =
    let paths = c.args.paths.now in
    let calls = c.args.calls.now in
    let i = c.loop-call.call-index in
    let call = slice_index calls i in
    let same = c.greater-greatest.ensures ∙ ap (greater c.loop-call.greatest) c.path_at.ensures in
    record {
      value = λ key. ap (λ g. greatest_from paths g (waits_for key (drop (i + 1) calls))) same
          ∙ ap (λ l. greatest_from paths c.loop-call.greatest (waits_for key l)) (next_left calls i call (get_or_default calls i 0 call (omega arith)) (omega arith)) ∙ c.loop-call.invariant.value key;
      bound = λ most least all. subst (λ (n : ℕ). n ≤ most) (sym same) (next_within paths c.loop-call.greatest call most (c.loop-call.invariant.bound most least all) all);
    }
