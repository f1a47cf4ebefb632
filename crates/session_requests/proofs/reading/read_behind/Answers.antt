use Rattle.std.proofs.Common.{sym, ◌∙◌}
use Rattle.session_requests.proofs.Behind.{tells_unkept}
use Rattle.session_requests.proofs.reading.read_behind.Goals as goal

pub returns-in-Ok-Unkept-clause-says : goal.returns-in-Ok-Unkept-clause-says
returns-in-Ok-Unkept-clause-says g c =
    let body = rw (c.in-Ok-Unkept.field-0-is, c.body_length-size.ensures) at c.in-Ok-Unkept.ensures.bytes in
    let some = rw (c.in-Ok-Unkept.field-0-is, c.body_length-size.ensures) at c.in-Ok-Unkept.ensures.lost in
    tells_unkept c.args.frame_limit c.args.line (g.R.Read.remaining c.args.input.now) (g.R.Read.remaining c.read_body-2.new.input) (sym c.is_too_long.ensures ∙ c.if-is_too_long.false) some body
