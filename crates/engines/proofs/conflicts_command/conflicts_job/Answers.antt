use Rattle.std.proofs.Common.{inr}
use Rattle.std.proofs.lemmas.Result.{IfErr-weaker, on_ok_weaker}
use Rattle.conflicts.specs.Text.{conflicts_text}
use Rattle.engines.proofs.Conflicts.{is_text}
use Rattle.engines.proofs.conflicts_command.conflicts_job.Goals as goal

pub returns-clause-written : goal.returns-clause-written
returns-clause-written g c =
    let found = c.in-Ok.conflicts in
    let is = is_text c.args.job.now found.calls.items found.paths.items found.keys.items c.in-Ok.ensures.calls c.in-Ok.ensures.paths c.in-Ok.ensures.count c.in-Ok.ensures.keys in
    on_ok_weaker c.write_found.result (λ appends. (conflicts_text found.calls.items found.paths.items found.keys.items, is, appends)) c.write_found.ensures.written

pub returns-clause-refused : goal.returns-clause-refused
returns-clause-refused g c =
    let found = c.in-Ok.conflicts in
    let is = is_text c.args.job.now found.calls.items found.paths.items found.keys.items c.in-Ok.ensures.calls c.in-Ok.ensures.paths c.in-Ok.ensures.count c.in-Ok.ensures.keys in
    IfErr-weaker c.write_found.result _ _ (λ _ told. inr (conflicts_text found.calls.items found.paths.items found.keys.items, is, told)) c.write_found.ensures.refused
