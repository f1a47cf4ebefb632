use Rattle.std.proofs.lemmas.Result.{err_from_is_err_and}
use Rattle.session_serving.proofs.Writes.{cut_before, printed_behind}
use Rattle.session_serving.proofs.writing.write_both.Goals as goal

pub returns-in_err-write_whole : goal.returns-in_err-write_whole
returns-in_err-write_whole g c =
    let p = err_from_is_err_and c.from_residual.result c.from_residual.ensures.1 in
    rw (p.1, p.2) (cut_before c.args.bytes.now c.in_err-write_whole.ensures.writes)

pub returns : goal.returns
returns g c = printed_behind c.in_ok-write_whole.ensures.writes c.print.ensures
