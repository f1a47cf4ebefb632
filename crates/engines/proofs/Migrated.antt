-- Faults of a block file that is migrated.
use Rattle.std.proofs.Common.{◌≤◌, Bool, true, false, ℕ, List, lit≤, refl, inr, if◌then◌else◌}
use Rattle.std.specs.Prelude.{IfErr, Result, Ok, Err}
use Rattle.std.specs.Result.{result_map_both}
use Rattle.block_file.specs.Block.{BlockValue, parsed_block}
use Rattle.block_file.specs.Line.{cut}
use Rattle.block_file.specs.Migrate.{in_second_format, is_first_format, migrated}
use Rattle.block_file.specs.declared.fault.BlockFault.{BlockFault}
use Rattle.block_file.specs.declared.fault.Cause.TheVariants.{BadHeader, Memory}
use Rattle.block_file.proofs.Blocks.{from_first}
use Rattle.engines.specs.declared.fault.Refusal.TheVariants.{Block}
use Rattle.engines.specs.Engine.{IsBlockFault}

-- no fault of a block file is before line 1
behind_header : (first : Bool) (block : Result BlockValue BlockFault) (text : List ℕ) → IfErr block (λ fault. 1 ≤ fault.line)
    → IfErr (if first then result_map_both (λ _. text) (λ fault. fault) block else Err (record { line = 1; cause = BadHeader })) (λ (fault : BlockFault). 1 ≤ fault.line)
behind_header true (Ok block) text h = tt
behind_header true (Err fault) text h = h
behind_header false block text h = lit≤ tt

-- so want of memory on line 1 comes before any
pub memory_is_first : (may_fail : Type 0) (bytes : List ℕ) → IsBlockFault may_fail (migrated bytes) (Block (record { line = 1; cause = Memory }))
memory_is_first may_fail bytes = inr (refl, behind_header (is_first_format bytes) (parsed_block bytes) (in_second_format bytes) (from_first (cut 10 bytes)))
