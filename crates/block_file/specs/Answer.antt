-- How the answer of a function of this crate agrees with the answer that is wanted.
use Rattle.std.specs.Prelude.{◌≡◌, ◌≢◌, ◌≤◌, ◌⊎◌, Result, Ok, Err, IfErr}
use Rattle.std.specs.Result.{result_map_both}
use Rattle.block_file.specs.declared.fault.Cause.{Cause}
use Rattle.block_file.specs.declared.fault.Cause.TheVariants.{Memory}
use Rattle.block_file.specs.declared.fault.BlockFault.{BlockFault}

-- for a line: the value or the cause that is wanted, or Memory
abbrev pub GivesValue : {X Y : Type 0} → (X → Y) → Result X Cause → Result Y Cause → Type 0
GivesValue view (Ok x) wanted = wanted ≡ Ok (view x)
GivesValue view (Err cause) wanted = (cause ≡ Memory) ⊎ (wanted ≡ Err cause)

-- for a file: the value or the fault that is wanted, or Memory on a line with no fault before it
abbrev pub ReadsFile : {X Y : Type 0} → (X → Y) → Result X BlockFault → Result Y BlockFault → Type 0
ReadsFile view (Ok x) wanted = wanted ≡ Ok (view x)
ReadsFile view (Err fault) wanted = (wanted ≡ Err fault) ⊎ ((fault.cause ≡ Memory) × IfErr wanted (λ first. fault.line ≤ first.line))

-- what an answer says: a value, or the fault
abbrev pub said : {X Y : Type 0} → (X → Y) → Result X BlockFault → Result Y BlockFault
said view answer = result_map_both view (λ fault. fault) answer

-- the call did not run out of memory
abbrev pub HadMemory : {X : Type 0} → Result X BlockFault → Type 0
HadMemory answer = IfErr answer (λ fault. fault.cause ≢ Memory)
