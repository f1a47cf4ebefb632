-- What a refusal of a block's run prints.
use Rattle.std.specs.Prelude.{List, ℕ, ◌++◌, codes}
use Rattle.std.specs.Fmt.{decimal}
use Rattle.workers.specs.declared.chain.ChainFault.{ChainFault}
use Rattle.workers.specs.declared.chain.ChainFault.TheVariants.{Run, TooManyCalls}
use Rattle.workers.specs.declared.fault.RunFault.{RunFault}
use Rattle.workers.specs.declared.fault.RunFault.TheVariants.{BadCount, Foreign, ArenaFull, IncarnationLimit, Memory, Spawn, StepLimit}

-- the number and the name
abbrev pub row_of : RunFault → ℕ × List ℕ
row_of BadCount = (1, codes "BadCount")
row_of Foreign = (2, codes "Foreign")
row_of ArenaFull = (3, codes "ArenaFull")
row_of IncarnationLimit = (4, codes "IncarnationLimit")
row_of Memory = (5, codes "Memory")
row_of Spawn = (6, codes "Spawn")
row_of StepLimit = (7, codes "StepLimit")

abbrev pub number_of : RunFault → ℕ
number_of fault = (row_of fault).0

abbrev pub name_of : RunFault → List ℕ
name_of fault = (row_of fault).1

-- the name and the number, as they are printed
abbrev pub fault_text : RunFault → List ℕ
fault_text fault = name_of fault ++ codes " " ++ decimal (number_of fault)

-- the name and the number of a refusal of a block of a chain
abbrev pub chain_fault_text : ChainFault → List ℕ
chain_fault_text (Run fault) = fault_text fault
chain_fault_text TooManyCalls = codes "TooManyCalls 8"
