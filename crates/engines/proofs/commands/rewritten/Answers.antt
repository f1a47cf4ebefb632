use Rattle.std.proofs.Common.{inr}
use Rattle.std.proofs.lemmas.Result.{IfErr-weaker}
use Rattle.block_file.specs.Migrate.{migrated}
use Rattle.engines.proofs.OpenFiles.{block_fault, migrate_refused}
use Rattle.engines.proofs.commands.rewritten.Goals as goal

-- the block file was not opened, or is the file at OUT
pub returns-in-Err-clause-err : goal.returns-in-Err-clause-err
returns-in-Err-clause-err g c = migrate_refused (g.D.Disk.content c.args.disk.now c.args.file.now) c.in-Err.refusal c.in-Err.ensures.err

-- it has a fault
pub returns-clause-err : goal.returns-clause-err
returns-clause-err g c = IfErr-weaker c.migrated_file.result _ _ (λ e told. inr (block_fault _ _ _ c.in-Ok.ensures.bytes c.in-Ok.ensures.readable migrated e told)) c.migrated_file.ensures.err
