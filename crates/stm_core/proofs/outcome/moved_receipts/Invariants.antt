use Rattle.std.proofs.Common.{◌≡◌, ◌++◌}
use Rattle.std.specs.List.{filter_map}
use Rattle.std.specs.Vec.Iter.{into_iter_items}
use Rattle.stm_state.specs.Done.{last_receipt}
use Rattle.stm_core.proofs.outcome.moved_receipts.Given as goal

abbrev pub invariant-loop-call : goal.invariant-loop-call
invariant-loop-call l = l.receipts.items ++ filter_map last_receipt (into_iter_items l.call-iterator) ≡ filter_map last_receipt l.fn.calls.items
