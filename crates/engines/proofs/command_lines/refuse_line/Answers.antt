use Rattle.engines.proofs.Told.{text_told}
use Rattle.engines.proofs.command_lines.refuse_line.Goals as goal

pub returns-clause-told : goal.returns-clause-told
returns-clause-told g c =
    text_told c.write_text.result (g.E.Destination.may_refuse c.args.errors.now) (g.E.Write.contents c.args.errors.now) (g.E.Write.contents c.write_text.new.out) c.args.message.now
    c.write_text.ensures.written c.write_text.ensures.cut c.write_text.ensures.cause c.write_text.ensures.room
