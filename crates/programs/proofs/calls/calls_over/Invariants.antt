use Rattle.std.proofs.Common.{◌≡◌, ◌++◌, vec_len, length, map}
use Rattle.std.specs.Arc.{arc_value}
use Rattle.std.specs.Vec.Iter.{into_iter_items, into_iter_len}
use Rattle.block_file.specs.Block.{call_value}
use Rattle.programs.specs.Programs.{call_over}
use Rattle.programs.proofs.calls.calls_over.Given as goal

abbrev pub invariant-loop-line : goal.invariant-loop-line
invariant-loop-line l = record {
  yielded : l.yielded ++ into_iter_items l.line-iterator ≡ l.fn.lines.items;
  left : into_iter_len l.line-iterator ≡ length (into_iter_items l.line-iterator);
  made : vec_len l.calls ≡ length l.yielded;
  calls : l.calls.items ≡ map (call_over l.fn.rules (map arc_value l.images)) (map call_value l.yielded);
}
