use Rattle.std.proofs.lemmas.Result.{err_from_is_err_and}
use Rattle.session_serving.proofs.Writes.{cut, printed}
use Rattle.session_serving.proofs.writing.print.Goals as goal

pub returns-in_err-write_whole : goal.returns-in_err-write_whole
returns-in_err-write_whole g c =
    let p = err_from_is_err_and c.from_residual.result c.from_residual.ensures.1 in
    rw (p.1, p.2) (cut c.in_err-write_whole.ensures.writes)

pub returns : goal.returns
returns g c = printed c.flush.result c.in_ok-write_whole.ensures.writes c.flush.ensures.keeps c.flush.ensures.flushed c.flush.ensures.refused c.flush.ensures.no_worse
