use Rattle.std.specs.Prelude.{◌<◌}
use Rattle.byte_streams.specs.Written.{AtMostAs}
use Rattle.session_requests.specs.Reading.{WhereKnown}
use Rattle.session_serving.proofs.Serves.{IsServing}
use Rattle.session_serving.proofs.serving.serve.Given as goal

abbrev pub invariant-loop-answers : goal.invariant-loop-answers
invariant-loop-answers g l = record {
  flushed : 0 < l.answers → g.W.Destination.is_flushed l.out;
  same : g.R.BufferedSource.may_fail l.input → g.R.BufferedSource.may_fail l.fn.input;
  no_worse : AtMostAs (g.W.Destination.may_refuse l.out) (g.W.Destination.may_refuse l.fn.out);
  kept : g.M.Session.is_kept l.settings l.session;
  sound : g.M.Session.is_open l.session;
  serves : WhereKnown (g.R.Read.remaining l.fn.input) (g.R.Read.remaining l.input) (IsServing (g.M.Session.answers l.settings) l.fn.session l.session (g.W.Write.contents l.fn.out) (g.W.Write.contents l.out) l.answers);
}
