use Rattle.std.proofs.Common.{◌≡◌, ◌≤◌, List, ℕ, true, length}
use Rattle.std.specs.Io.KnownBytes.{Consumes}
use Rattle.byte_streams.specs.Written.{AtMostAs}
use Rattle.debugger.specs.Hearing.{HasHeard}
use Rattle.debugger.proofs.session.debug_lines_to.Given as goal

abbrev pub invariant-loop-turn : goal.invariant-loop-turn
invariant-loop-turn g l =
    (heard : List ℕ) × Consumes (g.R.Read.remaining l.fn.lines) (g.R.Read.remaining l.lines) heard
    × HasHeard l.fn.has_more true l.fn.replay heard l.replay l.line.items (g.W.Write.contents l.fn.out) (g.W.Write.contents l.out)
    × (g.R.Source.may_fail l.lines → g.R.Source.may_fail l.fn.lines)
    × AtMostAs (g.W.Destination.may_refuse l.out) (g.W.Destination.may_refuse l.fn.out)
    × (l._turn ≤ length heard)
    × (l.has_answered ≡ true → g.W.Destination.is_flushed l.out)
