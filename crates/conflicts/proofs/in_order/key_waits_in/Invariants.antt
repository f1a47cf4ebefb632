use Rattle.std.proofs.Common.{◌≡◌, ◌++◌, map}
use Rattle.std.specs.List.{flat_map, slice_get}
use Rattle.conflicts.specs.ByKey.{key_waits_from}
use Rattle.conflicts.specs.Calls.{calls_at}
use Rattle.conflicts.specs.Table.{key_waits_in}
use Rattle.conflicts.proofs.in_order.key_waits_in.Given as goal

abbrev pub invariant-loop-key : goal.invariant-loop-key
invariant-loop-key l =
    l.waits.items ++ flat_map (λ key. key_waits_from key (slice_get (calls_at l.fn.named key) 0)) (map (λ e. e.0) l.key-iterator) ≡ key_waits_in l.fn.named l.fn.keys
