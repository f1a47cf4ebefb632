use Rattle.engines.proofs.Lines.{at_asked}
use Rattle.engines.specs.Program.{AreCountsAsked, AsksAsRefused, AsksStores, IsRefusedAs, IsTold, Prints}
use Rattle.engines.proofs.command_lines.answer_words.Goals as goal

-- what was asked for was refused; the line was read before, and nothing was written by then
pub returns-in-Ok-clause-refused : goal.returns-in-Ok-clause-refused
returns-in-Ok-clause-refused g c = λ refused.
    at_asked (λ out errors asked. IsTold (g.E.Destination.may_refuse errors)
    (λ e. IsRefusedAs (g.D.Disk.content c.args.disk.now) (g.I.Source.may_fail c.args.input.now) (g.I.Read.remaining c.args.input.now) (g.W.Destination.may_refuse out) (g.W.Write.contents out) (g.W.Write.contents c.do_request.new.out) asked e
    × AsksAsRefused (g.I.Read.remaining c.args.input.now) (g.K.SessionStores.asked c.args.stores.now) (g.K.SessionStores.asked c.do_request.new.stores) asked e)
    (Prints (g.D.Disk.content c.args.disk.now) (g.I.Read.remaining c.args.input.now) (g.W.Write.contents out) (g.W.Write.contents c.do_request.new.out) asked
    × AsksStores (g.K.SessionStores.asked c.args.stores.now) (g.K.SessionStores.asked c.do_request.new.stores) asked)
    (AreCountsAsked (g.D.Disk.content c.args.disk.now) asked) (g.E.Write.contents errors) (g.E.Write.contents c.do_request.new.errors))
    c.args.out.now c.read_request.new.out c.args.errors.now c.read_request.new.errors _ _ c.in-Ok.ensures.quiet.0 c.in-Ok.ensures.quiet.1 c.in-Ok.ensures.ok (c.do_request.ensures.refused refused)
