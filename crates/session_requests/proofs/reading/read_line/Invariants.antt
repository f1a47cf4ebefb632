use Rattle.std.specs.Prelude.{◌≡◌, length}
use Rattle.session_requests.specs.Reading.{WhereKnown}
use Rattle.session_requests.proofs.Taken.{Scans}
use Rattle.session_requests.proofs.reading.read_line.Given as goal

abbrev pub invariant-loop-count : goal.invariant-loop-count
invariant-loop-count g l = record {
  sized : length l.room ≡ 128;
  scans : WhereKnown (g.R.Read.remaining l.fn.input) (g.R.Read.remaining l.input) (Scans l.room l.count);
  same : g.R.BufferedSource.may_fail l.input → g.R.BufferedSource.may_fail l.fn.input;
}
