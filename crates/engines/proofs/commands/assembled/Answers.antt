use Rattle.std.proofs.Common.{inr}
use Rattle.std.proofs.lemmas.Result.{IfErr-weaker}
use Rattle.engines.proofs.OpenFiles.{asm_refused, source_fault}
use Rattle.engines.proofs.commands.assembled.Goals as goal

-- the source was not opened, or is the file at OUT
pub returns-in-Err-clause-err : goal.returns-in-Err-clause-err
returns-in-Err-clause-err g c = asm_refused (g.D.Disk.content c.args.disk.now c.args.file.now) c.in-Err.refusal c.in-Err.ensures.err

-- it has a fault
pub returns-clause-err : goal.returns-clause-err
returns-clause-err g c = IfErr-weaker c.file_of_source.result _ _ (λ e told. inr (source_fault _ _ _ c.in-Ok.ensures.bytes c.in-Ok.ensures.readable e told)) c.file_of_source.ensures.err
