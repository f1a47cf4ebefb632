use Rattle.mvmap.proofs.Walks.{IsWalked}
use Rattle.mvmap.proofs.seek.seek.Given as goal

abbrev pub invariant-loop-place : goal.invariant-loop-place
invariant-loop-place l = IsWalked l.at_key l.fn.i l.place

abbrev pub decreases-loop-place : goal.decreases-loop-place
decreases-loop-place l = l.place
