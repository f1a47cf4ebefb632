use Rattle.std.proofs.Common.{◌≡◌, ◌++◌, drop}
use Rattle.std.specs.List.{filter_map}
use Rattle.stm_state.specs.Done.{last_receipt}
use Rattle.stm_core.proofs.outcome.receipts_in.Given as goal

abbrev pub invariant-loop-call : goal.invariant-loop-call
invariant-loop-call l = l.receipts.items ++ filter_map last_receipt (drop l.call-index l.calls) ≡ filter_map last_receipt l.calls
