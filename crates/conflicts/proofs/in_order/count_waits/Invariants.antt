use Rattle.std.proofs.Common.{◌≡◌, map}
use Rattle.std.specs.List.{flat_map}
use Rattle.conflicts.specs.Calls.{calls_at, with_waits}
use Rattle.conflicts.specs.Table.{waits_in}
use Rattle.conflicts.specs.Waits.{waits_for}
use Rattle.conflicts.proofs.in_order.count_waits.Given as goal

abbrev pub invariant-loop-key : goal.invariant-loop-key
invariant-loop-key l =
    with_waits l.counts (flat_map (λ key. waits_for key (calls_at l.fn.named key)) (map (λ e. e.0) l.key-iterator)) ≡ with_waits l.fn.counts (waits_in l.fn.named l.fn.keys)
