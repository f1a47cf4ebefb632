use Rattle.std.proofs.Common.{◌≡◌, ◌≤◌, ◌+◌, ◌++◌, not, take, vec_capacity, vec_len}
use Rattle.std.specs.List.{filter}
use Rattle.std.specs.FinMap.{contains_key, entries}
use Rattle.stm_state.specs.Steps.{keys_of}
use Rattle.scheduler.proofs.worker.push_left_over.Given as goal

abbrev pub invariant-loop-key : goal.invariant-loop-key
invariant-loop-key l = record {
  pushed : l.keys.items ≡ l.fn.keys.items ++ keys_of (filter (λ write. not (contains_key l.writes write.0)) (take l.key-index (entries l.before)));
  count : vec_len l.keys ≤ vec_len l.fn.keys + l.key-index;
  capacity : vec_capacity l.keys ≡ vec_capacity l.fn.keys;
}
