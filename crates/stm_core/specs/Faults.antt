-- What a refusal prints.
use Rattle.std.specs.Prelude.{List, ℕ, ◌++◌, codes}
use Rattle.std.specs.Fmt.{decimal}
use Rattle.stm_core.specs.declared.driving.DriveFault.{DriveFault}
use Rattle.stm_core.specs.declared.driving.DriveFault.TheVariants.{NotDone, BadWorker, ArenaFull, IncarnationLimit, Memory}
use Rattle.stm_core.specs.declared.fault.RecordFault.{RecordFault}
use Rattle.stm_core.specs.declared.fault.RecordFault.TheVariants as record_fault

-- the number and the name of a refusal of a schedule
abbrev pub row_of : DriveFault → ℕ × List ℕ
row_of NotDone = (1, codes "NotDone")
row_of BadWorker = (2, codes "BadWorker")
row_of ArenaFull = (3, codes "ArenaFull")
row_of IncarnationLimit = (4, codes "IncarnationLimit")
row_of Memory = (5, codes "Memory")

abbrev pub number_of : DriveFault → ℕ
number_of fault = (row_of fault).0

abbrev pub name_of : DriveFault → List ℕ
name_of fault = (row_of fault).1

-- the name and the number, as they are printed
abbrev pub fault_text : DriveFault → List ℕ
fault_text fault = name_of fault ++ codes " " ++ decimal (number_of fault)

-- the number and the name of a refusal of a run that is handed in
abbrev pub record_row : RecordFault → ℕ × List ℕ
record_row record_fault.Foreign = (1, codes "Foreign")
record_row record_fault.ArenaFull = (2, codes "ArenaFull")
record_row record_fault.Memory = (3, codes "Memory")
record_row record_fault.IncarnationLimit = (4, codes "IncarnationLimit")

abbrev pub record_number : RecordFault → ℕ
record_number fault = (record_row fault).0

abbrev pub record_name : RecordFault → List ℕ
record_name fault = (record_row fault).1

-- the name and the number, as they are printed
abbrev pub record_text : RecordFault → List ℕ
record_text fault = record_name fault ++ codes " " ++ decimal (record_number fault)
