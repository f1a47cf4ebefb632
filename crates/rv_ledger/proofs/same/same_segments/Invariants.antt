use Rattle.std.proofs.Common.{◌≡◌, ◌<◌, ℕ, get_or}
use Rattle.elf32.specs.declared.segment.Segment.{Segment}
use Rattle.rv_ledger.proofs.same.same_segments.Given as goal

abbrev pub invariant-loop-i : goal.invariant-loop-i
invariant-loop-i l = (k : ℕ) (d : Segment) → k < l.i → get_or l.left k d ≡ get_or l.right k d
