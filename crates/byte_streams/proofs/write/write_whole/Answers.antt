use Rattle.std.proofs.Common.{◌<◌, length, arith}
use Rattle.std.proofs.lemmas.Bool.Decides.{nat_tests}
use Rattle.byte_streams.proofs.Taken.{written_more, written_part}
use Rattle.byte_streams.proofs.write.write_whole.Goals as goal

pub loop-rest-preserved : goal.loop-rest-preserved
loop-rest-preserved g c = record {
  written = rw c.split_at.ensures.back (written_more _ _ _ _ _ _ c.loop-rest.invariant.written c.in-Ok.ensures.ok.2);
  same = λ fault h. c.loop-rest.invariant.same fault (c.in-Ok.ensures.same fault h);
}

pub returns-in-Err-clause-writes : goal.returns-in-Err-clause-writes
returns-in-Err-clause-writes g c =
    let left : 0 < length c.loop-rest.rest.now = grind (arith, nat_tests) in
    record {
      ok = tt;
      err = written_part _ _ _ _ _ left c.loop-rest.invariant.written c.in-Err.ensures.err;
      cause = c.loop-rest.invariant.same c.in-Err.fault c.in-Err.ensures.cause;
      same = λ fault h. c.loop-rest.invariant.same fault (c.in-Err.ensures.same fault h);
    }
