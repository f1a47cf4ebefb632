use Rattle.std.proofs.Common.{sym, take}
use Rattle.session_requests.proofs.Behind.{tells_bad, tells_behind, tells_broken, tells_end}
use Rattle.session_requests.proofs.reading.next_request.Goals as goal

pub returns-in-Some-clause-says : goal.returns-in-Some-clause-says
returns-in-Some-clause-says g c =
    let line = rw c.in-Ok-Whole.field-0-is at c.in-Ok-Whole.ensures.line in
    tells_behind c.args.frame_limit c.in-Some.line (take c.in-Ok-Whole.count c.read_line.new.room) c.read_behind.result (g.R.Read.remaining c.args.input.now) (g.R.Read.remaining c.read_line.new.input) _
    (sym c.in-Some.ensures) line c.read_behind.ensures.says

pub returns-in-None-clause-says : goal.returns-in-None-clause-says
returns-in-None-clause-says g c =
    let line = rw c.in-Ok-Whole.field-0-is at c.in-Ok-Whole.ensures.line in
    tells_bad c.args.frame_limit (take c.in-Ok-Whole.count c.read_line.new.room) (g.R.Read.remaining c.args.input.now) (g.R.Read.remaining c.read_line.new.input) (sym c.in-None.ensures) line

pub returns-in-Ok-Nothing-clause-says : goal.returns-in-Ok-Nothing-clause-says
returns-in-Ok-Nothing-clause-says g c =
    tells_end c.args.frame_limit (g.R.Read.remaining c.args.input.now) (g.R.Read.remaining c.read_line.new.input) (rw c.in-Ok-Nothing.field-0-is at c.in-Ok-Nothing.ensures.line)

pub returns-in-Ok-Broken-clause-says : goal.returns-in-Ok-Broken-clause-says
returns-in-Ok-Broken-clause-says g c =
    tells_broken c.args.frame_limit (g.R.Read.remaining c.args.input.now) (g.R.Read.remaining c.read_line.new.input) (rw c.in-Ok-Broken.field-0-is at c.in-Ok-Broken.ensures.line)
