use Rattle.std.proofs.Common.{◌<◌, ◌^◌, ◌∙◌, map, sym, ap, subst}
use Rattle.std.specs.List.{flat_map}
use Rattle.conflicts.specs.Calls.{calls_at, count_at, with_waits}
use Rattle.conflicts.specs.Waits.{waits_for}
use Rattle.conflicts.proofs.Counted.{still_fits}
use Rattle.conflicts.proofs.in_order.count_waits.Goals as goal

pub count_calls-requires : goal.count_calls-requires
count_calls-requires c =
    let named = c.args.named.now in
    let key = c.in-Some.key.now in
    let counts = c.loop-key.counts in
    let all = ap (λ left. with_waits counts (flat_map (λ k. waits_for k (calls_at named k)) (map (λ e. e.0) left))) (sym c.in-Some.ensures.steps) ∙ c.loop-key.invariant in
    subst (λ l. count_at (with_waits counts (waits_for key l)) key < 2 ^ 64) (sym c.at.ensures)
    (still_fits key counts (waits_for key (calls_at named key)) (flat_map (λ k. waits_for k (calls_at named k)) (map (λ e. e.0) c.next.new.self))
    (subst (λ m. count_at m key < 2 ^ 64) (sym all) (c.requires key)))
