use Rattle.std.proofs.Common.{◌≡◌, ◌⊎◌, ℕ, List, refl, inl, inr}
use Rattle.std.specs.Prelude.{Option, Some, None, IfSome}
use Rattle.block_file.specs.Block.{parsed_block}
use Rattle.block_file.specs.Line.{cut}
use Rattle.block_file.specs.declared.fault.Cause.TheVariants.{Memory}
use Rattle.block_file.proofs.Blocks.{from_first}
use Rattle.engines.specs.declared.fault.FileFault.TheVariants.{Unreadable}
use Rattle.engines.specs.declared.fault.Refusal.{Refusal}
use Rattle.engines.specs.declared.fault.Refusal.TheVariants.{Block, File}
use Rattle.engines.specs.Engine.{IsBlockFault}
use Rattle.engines.proofs.loading.read_block.Goals as goal

-- no fault of a block file is before line 1
reading : (may_fail : Type 0) (input : Option (List ℕ)) (e : Refusal) → (e ≡ Block (record { line = 1; cause = Memory })) ⊎ ((e ≡ File Unreadable) × may_fail) → IfSome input (λ bytes. IsBlockFault may_fail (parsed_block bytes) e)
reading may_fail None e h = tt
reading may_fail (Some bytes) e (inl memory) = rw memory (inr (refl, from_first (cut 10 bytes)))
reading may_fail (Some bytes) e (inr unreadable) = rw unreadable.0 unreadable.1

pub returns-in-Err-clause-err : goal.returns-in-Err-clause-err
returns-in-Err-clause-err g c = reading (g.R.Source.may_fail c.args.block.now) (g.R.Read.remaining c.args.block.now) c.in-Err.refusal c.in-Err.ensures.err
