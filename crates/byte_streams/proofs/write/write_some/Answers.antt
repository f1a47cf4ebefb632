use Rattle.byte_streams.proofs.Taken.{may_come, none_taken, some_taken}
use Rattle.byte_streams.proofs.write.write_some.Goals as goal

pub returns-clause-ok : goal.returns-clause-ok
returns-clause-ok g c =
    rw c.taken.ensures (some_taken c.write_part.result _ _ c.args.bytes.now c.write_part.ensures.bound c.write_part.ensures.bytes)

pub returns-clause-err : goal.returns-clause-err
returns-clause-err g c = rw c.taken.ensures (none_taken c.write_part.result _ _ c.args.bytes.now c.write_part.ensures.bytes)

pub returns-clause-cause : goal.returns-clause-cause
returns-clause-cause g c =
    rw c.taken.ensures (may_come c.write_part.result c.args.bytes.now (g.W.Destination.may_refuse c.args.out.now) c.requires c.write_part.ensures.fails c.write_part.ensures.nothing)
