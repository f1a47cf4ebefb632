use Rattle.std.proofs.Common.{◌≡◌, ◌++◌, true, false, take}
use Rattle.byte_streams.specs.Written.{AtMostAs}
use Rattle.debugger.specs.Hearing.{HasHeard}
use Rattle.debugger.proofs.session.hear.Given as goal

abbrev pub invariant-loop-byte : goal.invariant-loop-byte
invariant-loop-byte g l =
    HasHeard l.fn.has_more true l.fn.replay (l.fn.line.items ++ take l.byte-index l.part) l.replay l.line.items (g.W.Write.contents l.fn.out) (g.W.Write.contents l.out)
    × AtMostAs (g.W.Destination.may_refuse l.out) (g.W.Destination.may_refuse l.fn.out)
    × (l.has_answered ≡ true → g.W.Destination.is_flushed l.out) × (l.has_answered ≡ false → l.out ≡ l.fn.out)
