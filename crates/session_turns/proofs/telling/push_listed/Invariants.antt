use Rattle.std.proofs.Common.{take}
use Rattle.std.specs.List.{flat_map}
use Rattle.byte_streams.proofs.Writers.{writer_of}
use Rattle.receipts.proofs.Buffers.{IsAppendedBefore}
use Rattle.receipts.specs.Text.{store_line}
use Rattle.session_turns.specs.Telling.{listed}
use Rattle.session_turns.proofs.telling.push_listed.Given as goal

abbrev pub invariant-loop-key : goal.invariant-loop-key
invariant-loop-key g l = IsAppendedBefore (writer_of g.W.Write g.W.Destination) l.fn.text l.fn.out l.text l.out (flat_map store_line (take l.left l.key-iterator)) (listed l.fn.store l.fn.from l.fn.count)
