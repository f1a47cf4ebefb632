use Rattle.std.proofs.Common.{sym}
use Rattle.debugger.proofs.Cuts.{last_cut}
use Rattle.debugger.proofs.SessionInputs.{none_left, one_left}
use Rattle.debugger.proofs.session.hear_end.Goals as goal

pub returns-then-is_empty-clause-ok : goal.returns-then-is_empty-clause-ok
returns-then-is_empty-clause-ok g c = none_left c.args.has_more c.args.replay.now c.args.line.now _ c.if-is_empty.ensures

pub returns-in-Ok-clause-ok : goal.returns-in-Ok-clause-ok
returns-in-Ok-clause-ok g c =
    one_left c.args.has_more c.args.replay.now c.answer_line.new.replay c.args.line.now _ _ c.requires (sym c.if-is_empty.ensures) c.in-Ok.ensures.replay c.in-Ok.ensures.text

pub returns-in-Err-clause-err : goal.returns-in-Err-clause-err
returns-in-Err-clause-err g c =
    last_cut c.args.has_more c.in-Err.fault c.args.replay.now c.answer_line.new.replay c.args.line.now (g.W.Write.contents c.args.out.now) (g.W.Write.contents c.answer_line.new.out) c.requires (sym c.if-is_empty.ensures) c.in-Err.ensures.err
