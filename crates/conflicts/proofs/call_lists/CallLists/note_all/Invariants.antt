use Rattle.std.proofs.Common.{◌≡◌, drop}
use Rattle.std.specs.FinMap as map
use Rattle.conflicts.specs.Table.{after_changes}
use Rattle.conflicts.proofs.call_lists.CallLists.note_all.Given as goal

abbrev pub invariant-loop-key : goal.invariant-loop-key
invariant-loop-key l = after_changes l.call (drop l.key-index (map.entries l.writes)) l.self ≡ after_changes l.fn.call (map.entries l.fn.writes) l.fn.self
