-- The steps of a block with the fault that it keeps.
use Rattle.std.specs.Prelude.{◌≡◌, ℕ, Option, None, Some, Result, Ok, Err}
use Rattle.block_driver.specs.declared.fault.StepFault.{StepFault}
use Rattle.block_driver.specs.declared.fault.StepFault.TheVariants as fault
use Rattle.block_driver.specs.declared.hold.Owed.{Owed}
use Rattle.block_driver.specs.declared.progress.Progress.{Progress}
use Rattle.block_driver.specs.declared.shared_block.SharedBlock.{SharedBlock}
use Rattle.block_driver.specs.Owed.{IsStepped}

-- the fault that a block keeps after a step: its fault, unless memory ran out
abbrev pub kept_fault : Result Owed StepFault → Option StepFault
kept_fault (Ok told) = None
kept_fault (Err fault.Memory) = None
kept_fault (Err found) = Some found

-- a step call of a block: the fault that it keeps, or what the steps tell
abbrev pub IsBlockStep : Option StepFault → ℕ → ℕ → Progress → Progress → SharedBlock → SharedBlock → Result Owed StepFault → Type 0
IsBlockStep (Some first) w most has left old new told = (told ≡ Err first) × (left ≡ has) × (new ≡ old)
IsBlockStep None w most has left old new told = IsStepped w most has left old.core new.core told × (new.fault ≡ kept_fault told)
