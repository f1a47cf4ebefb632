use Rattle.std.proofs.Common.{◌∙◌, arith, length-set}
use Rattle.std.proofs.lemmas.Bool.Decides.{nat_tests}
use Rattle.session_requests.proofs.Taken.{scans_cut, scans_full, scans_hit, scans_more, scans_none, scans_nothing}
use Rattle.session_requests.proofs.reading.read_line.Goals as goal

pub loop-count-init : goal.loop-count-init
loop-count-init g c = record { sized = c.told-room; scans = scans_none c.args.room.now (g.R.Read.remaining c.args.input.now); same = λ h. h }

pub returns-then-count-eq0-clause-line : goal.returns-then-count-eq0-clause-line
returns-then-count-eq0-clause-line g c =
    let byte = rw c.in-Ok-None.field-0-is at c.in-Ok-None.ensures.byte in
    scans_nothing c.loop-count.room c.loop-count.count (g.R.Read.remaining c.args.input.now) (g.R.Read.remaining c.loop-count.input) (g.R.Read.remaining c.next_byte.new.input)
    c.if-count-eq0.true c.loop-count.invariant.scans byte.0 byte.1

pub returns-in-Ok-None-clause-line : goal.returns-in-Ok-None-clause-line
returns-in-Ok-None-clause-line g c =
    let byte = rw c.in-Ok-None.field-0-is at c.in-Ok-None.ensures.byte in
    scans_cut c.loop-count.room c.loop-count.count (g.R.Read.remaining c.args.input.now) (g.R.Read.remaining c.loop-count.input) (g.R.Read.remaining c.next_byte.new.input)
    (omega (arith, c.if-count-eq0.false)) (omega (arith, c.loop-count.invariant.sized)) c.loop-count.invariant.scans byte.0 byte.1

pub returns-then-byte-eq10-clause-line : goal.returns-then-byte-eq10-clause-line
returns-then-byte-eq10-clause-line g c =
    let byte = rw c.in-Ok-Some.field-0-is at c.in-Ok-Some.ensures.byte in
    scans_hit c.loop-count.room c.loop-count.count c.in-Ok-Some.byte (g.R.Read.remaining c.args.input.now) (g.R.Read.remaining c.loop-count.input) (g.R.Read.remaining c.next_byte.new.input)
    (omega arith) c.loop-count.invariant.scans byte (grind (arith, nat_tests))

pub loop-count-preserved : goal.loop-count-preserved
loop-count-preserved g c =
    let byte = rw c.in-Ok-Some.field-0-is at c.in-Ok-Some.ensures.byte in
    record {
      sized = length-set c.loop-count.room c.loop-count.count c.in-Ok-Some.byte ∙ c.loop-count.invariant.sized;
      scans = scans_more c.loop-count.room c.loop-count.count c.in-Ok-Some.byte (g.R.Read.remaining c.args.input.now) (g.R.Read.remaining c.loop-count.input) (g.R.Read.remaining c.next_byte.new.input)
          (omega arith) (omega (arith, c.loop-count.invariant.sized)) c.loop-count.invariant.scans byte (grind (arith, nat_tests));
      same = λ h. c.loop-count.invariant.same (c.in-Ok-Some.ensures.same h);
    }

pub returns-clause-line : goal.returns-clause-line
returns-clause-line g c =
    scans_full c.loop-count.room c.loop-count.count (g.R.Read.remaining c.args.input.now) (g.R.Read.remaining c.loop-count.input) (omega arith) (omega (arith, c.loop-count.invariant.sized)) c.loop-count.invariant.scans
