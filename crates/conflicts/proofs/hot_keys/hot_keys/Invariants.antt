use Rattle.std.proofs.Common.{◌≡◌, ◌++◌, map}
use Rattle.conflicts.specs.Calls.{hot_key, hot_keys}
use Rattle.conflicts.proofs.hot_keys.hot_keys.Given as goal

abbrev pub invariant-loop-key : goal.invariant-loop-key
invariant-loop-key l = l.keys.items ++ map (hot_key l.fn.writers l.fn.waits) (map (λ e. e.0) l.key-iterator) ≡ hot_keys l.fn.writers l.fn.waits
