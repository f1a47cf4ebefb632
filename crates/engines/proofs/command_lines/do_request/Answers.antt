use Rattle.std.proofs.Common.{inr, subst}
use Rattle.cmdline.specs.Line.{asked_by_request}
use Rattle.engines.proofs.AtMost.{counted_prints, refused_prints}
use Rattle.engines.specs.Program.{AreCountsAsked}
use Rattle.engines.proofs.command_lines.do_request.Goals as goal

-- the command was done, and its counts could not all be printed
pub returns-in-Ok-Some-clause-refused : goal.returns-in-Ok-Some-clause-refused
returns-in-Ok-Some-clause-refused g c =
    let counted = subst (AreCountsAsked (g.D.Disk.content c.args.disk.now) (asked_by_request c.args.request)) c.in-Ok-Some.field-0-is c.in-Ok-Some.ensures.counted in
    λ told. inr (c.in-Ok-Some.counts, (c.in-Ok-Some.ensures.printed, c.in-Ok-Some.ensures.stored), counted, c.tell_counts.ensures.refused told)

pub returns-in-Ok-Some-clause-at_most : goal.returns-in-Ok-Some-clause-at_most
returns-in-Ok-Some-clause-at_most g c =
    let counted = subst (AreCountsAsked (g.D.Disk.content c.args.disk.now) (asked_by_request c.args.request)) c.in-Ok-Some.field-0-is c.in-Ok-Some.ensures.counted in
    λ _. counted_prints (g.D.Disk.content c.args.disk.now) (g.I.Read.remaining c.args.input.now) (g.W.Destination.may_refuse c.args.out.now) (g.W.Write.contents c.args.out.now) (g.W.Write.contents c.answer.new.out)
    (asked_by_request c.args.request) c.in-Ok-Some.counts counted c.in-Ok-Some.ensures.printed

-- it was refused
pub returns-in-Err-clause-at_most : goal.returns-in-Err-clause-at_most
returns-in-Err-clause-at_most g c = λ _.
    refused_prints (g.D.Disk.content c.args.disk.now) (g.I.Source.may_fail c.args.input.now) (g.I.Read.remaining c.args.input.now) (g.W.Destination.may_refuse c.args.out.now)
    (g.W.Write.contents c.args.out.now) (g.W.Write.contents c.answer.new.out) (asked_by_request c.args.request) c.in-Err.refusal c.in-Err.ensures.refused
