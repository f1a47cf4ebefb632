use Rattle.session_requests.specs.Reading.{WhereKnown}
use Rattle.std.specs.Prelude.{◌≤◌}
use Rattle.session_requests.proofs.Taken.{IsLost, Passes}
use Rattle.session_requests.proofs.reading.read_body.Given as goal

abbrev pub invariant-loop-left : goal.invariant-loop-left
invariant-loop-left g l = record {
  passes : WhereKnown (g.R.Read.remaining l.fn.input) (g.R.Read.remaining l.input) (Passes l.size l.left l.kept);
  few : l.left ≤ l.size;
  lost : IsLost l.fn.kept l.kept l.size;
  same : g.R.BufferedSource.may_fail l.input → g.R.BufferedSource.may_fail l.fn.input;
}

abbrev pub decreases-loop-left : goal.decreases-loop-left
decreases-loop-left g l = l.left
