use Rattle.debugger.proofs.Cuts.{part_begins}
use Rattle.debugger.proofs.session.print.Goals as goal

pub returns-in-Err-clause-err : goal.returns-in-Err-clause-err
returns-in-Err-clause-err g c =
    part_begins (g.W.Write.contents c.args.out.now) (g.W.Write.contents c.write_whole.new.out) c.args.text.now c.in-Err.ensures.writes.err
