use Rattle.std.proofs.Common.{arith}
use Rattle.session_requests.proofs.Taken.{none_lost, passes_more, passes_none, some_lost}
use Rattle.session_requests.proofs.reading.read_body.Goals as goal

pub loop-left-init : goal.loop-left-init
loop-left-init g c = record { passes = passes_none c.args.size c.args.kept (g.R.Read.remaining c.args.input.now) c.requires; few = omega arith; lost = none_lost c.args.kept c.args.size; same = λ h. h }

pub loop-left-preserved : goal.loop-left-preserved
loop-left-preserved g c =
    let piece = c.in-Ok.ensures.bytes in
    record {
      passes = passes_more c.args.size c.loop-left.left c.in-Ok.count c.loop-left.kept c.in-Ok.longer piece.0 (g.R.Read.remaining c.args.input.now) (g.R.Read.remaining c.loop-left.input) (g.R.Read.remaining c.read_piece.new.input)
          c.loop-left.invariant.passes piece.1 piece.2 piece.3 piece.5;
      few = omega (arith, c.loop-left.invariant.few);
      lost = some_lost c.args.kept c.loop-left.kept c.in-Ok.longer c.args.size (omega (arith, c.loop-left.invariant.few, c.loop-left-test)) c.loop-left.invariant.lost c.in-Ok.ensures.goes_on;
      same = λ h. c.loop-left.invariant.same (c.in-Ok.ensures.same h);
    }
