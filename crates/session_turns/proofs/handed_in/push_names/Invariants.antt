use Rattle.std.proofs.Common.{map}
use Rattle.std.specs.FinMap.{entries}
use Rattle.byte_streams.proofs.Writers.{writer_of}
use Rattle.receipts.proofs.Buffers.{IsAppendedBefore}
use Rattle.session_turns.specs.Telling.{names_text}
use Rattle.session_turns.proofs.handed_in.push_names.Given as goal

abbrev pub invariant-loop-name : goal.invariant-loop-name
invariant-loop-name g l = IsAppendedBefore (writer_of g.W.Write g.W.Destination) l.fn.text l.fn.out l.text l.out (names_text (map (λ e. e.0) l.name-iterator)) (names_text (map (λ e. e.0) (entries l.fn.programs)))
