use Rattle.std.specs.FinMap as map
use Rattle.session_turns.proofs.Entries.{IsPutting}
use Rattle.session_turns.proofs.run.put_entries.Given as goal

abbrev pub invariant-loop-key : goal.invariant-loop-key
invariant-loop-key l = IsPutting l.fn.changes l.changes l.key-iterator (map.entries l.entries)
