use Rattle.std.proofs.Common.{◌≡◌, false, replicate}
use Rattle.scheduler.proofs.calls.none_awaited.Given as goal

abbrev pub invariant-loop : goal.invariant-loop
invariant-loop l = l.awaited.items ≡ replicate l.counter false
