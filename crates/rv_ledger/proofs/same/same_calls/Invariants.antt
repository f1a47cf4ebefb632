use Rattle.std.proofs.Common.{◌≡◌, ◌<◌, ℕ, get_or}
use Rattle.rv_ledger.specs.Call.{Invocation}
use Rattle.rv_ledger.proofs.same.same_calls.Given as goal

abbrev pub invariant-loop-i : goal.invariant-loop-i
invariant-loop-i l = (k : ℕ) (d : Invocation) → k < l.i → get_or l.left k d ≡ get_or l.right k d
