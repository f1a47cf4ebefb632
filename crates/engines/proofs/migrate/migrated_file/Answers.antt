use Rattle.std.proofs.Common.{◌≡◌, ◌⊎◌, ◌∙◌, ℕ, List, subst, inl, inr}
use Rattle.std.specs.Prelude.{Option, Some, None, IfSome}
use Rattle.block_file.specs.Migrate.{migrated}
use Rattle.block_file.specs.declared.fault.BlockFault.{BlockFault}
use Rattle.block_file.specs.declared.fault.Cause.TheVariants.{Memory}
use Rattle.engines.specs.declared.fault.FileFault.TheVariants.{Unreadable}
use Rattle.engines.specs.declared.fault.Refusal.{Refusal}
use Rattle.engines.specs.declared.fault.Refusal.TheVariants.{Block, File}
use Rattle.engines.specs.Engine.{IsBlockFault, IsTextFault}
use Rattle.engines.proofs.Migrated.{memory_is_first}
use Rattle.engines.proofs.migrate.migrated_file.Goals as goal

reading : (may_fail : Type 0) (input : Option (List ℕ)) (e : Refusal) → (e ≡ Block (record { line = 1; cause = Memory })) ⊎ ((e ≡ File Unreadable) × may_fail) → IfSome input (λ bytes. IsBlockFault may_fail (migrated bytes) e)
reading may_fail None e h = tt
reading may_fail (Some bytes) e (inl memory) = rw memory (memory_is_first may_fail bytes)
reading may_fail (Some bytes) e (inr unreadable) = rw unreadable.0 unreadable.1

pub returns-in-Err-clause-err : goal.returns-in-Err-clause-err
returns-in-Err-clause-err g c = reading (g.R.Source.may_fail c.args.block.now) (g.R.Read.remaining c.args.block.now) c.in-Err.refusal c.in-Err.ensures.err

-- the fault of the bytes that were read
of_read : (input : Option (List ℕ)) (read bytes : List ℕ) (fault : BlockFault) → bytes ≡ read → IfSome input (λ all. read ≡ all) → IsTextFault (migrated bytes) fault → IfSome input (λ all. IsTextFault (migrated all) fault)
of_read None read bytes fault same is h = tt
of_read (Some all) read bytes fault same is h = subst (λ xs. IsTextFault (migrated xs) fault) (same ∙ is) h

pub returns-clause-err : goal.returns-clause-err
returns-clause-err g c =
    of_read (g.R.Read.remaining c.args.block.now) c.in-Ok.bytes.items c.as_slice.result.now c.in-Err-migrate.fault c.as_slice.ensures.value c.in-Ok.ensures.ok c.in-Err-migrate.ensures
