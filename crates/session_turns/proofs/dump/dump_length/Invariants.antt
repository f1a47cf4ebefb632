use Rattle.std.proofs.Common.{◌≡◌, ◌≤◌, ◌+◌, ◌*◌, length}
use Rattle.std.specs.FinMap.{entries}
use Rattle.std.specs.List.{flat_map}
use Rattle.receipts.specs.Text.{store_line}
use Rattle.session_turns.specs.Telling.{dump_text}
use Rattle.session_turns.proofs.dump.dump_length.Given as goal

abbrev pub invariant-loop-key : goal.invariant-loop-key
invariant-loop-key l = record {
  so_far : l.length + length (flat_map store_line l.key-iterator) ≡ length (dump_text l.fn.rules l.store);
  small : l.length + 584 * length l.key-iterator ≤ 16 + 584 * length (entries l.store);
}
