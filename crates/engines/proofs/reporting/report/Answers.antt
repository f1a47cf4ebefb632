use Rattle.engines.specs.Faults.{refusal_line}
use Rattle.engines.proofs.Told.{beginning, whole}
use Rattle.engines.proofs.reporting.report.Goals as goal

-- a beginning of the line is written, all of it or a part
pub returns-clause-line : goal.returns-clause-line
returns-clause-line g c =
    beginning c.write_refusal.result (g.W.Write.contents c.args.out.now) (g.W.Write.contents c.write_refusal.new.out) (refusal_line c.args.refusal.now) c.write_refusal.ensures.written c.write_refusal.ensures.cut

-- if no write may be refused, all of it is written
pub returns-clause-whole : goal.returns-clause-whole
returns-clause-whole g c fails nothing =
    whole c.write_refusal.result (g.W.Destination.may_refuse c.args.out.now) (g.W.Write.contents c.args.out.now) (g.W.Write.contents c.write_refusal.new.out) (refusal_line c.args.refusal.now) c.write_refusal.ensures.written c.write_refusal.ensures.cause c.write_refusal.ensures.room fails nothing
