use Rattle.std.proofs.Common.{◌≡◌, drop}
use Rattle.std.specs.FinMap as map
use Rattle.conflicts.specs.Calls.{with_call_changes}
use Rattle.conflicts.proofs.call_lists.CallLists.add_all.Given as goal

abbrev pub invariant-loop-key : goal.invariant-loop-key
invariant-loop-key l = with_call_changes l.call (drop l.key-index (map.entries l.writes)) l.self ≡ with_call_changes l.fn.call (map.entries l.fn.writes) l.fn.self
