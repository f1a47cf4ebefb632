-- What a refusal prints.
use Rattle.std.specs.Prelude.{List, ℕ, ◌++◌, codes}
use Rattle.std.specs.Fmt.{decimal}
use Rattle.debugger.specs.declared.fault.ReplayFault.{ReplayFault}
use Rattle.debugger.specs.declared.fault.ReplayFault.TheVariants.{NoSuchCall, AtEnd, AtStart, BadRange, Memory}

abbrev pub row_of : ReplayFault → ℕ × List ℕ
row_of NoSuchCall = (1, codes "NoSuchCall")
row_of AtEnd = (2, codes "AtEnd")
row_of AtStart = (3, codes "AtStart")
row_of BadRange = (4, codes "BadRange")
row_of Memory = (5, codes "Memory")

abbrev pub number_of : ReplayFault → ℕ
number_of fault = (row_of fault).0

abbrev pub name_of : ReplayFault → List ℕ
name_of fault = (row_of fault).1

-- the name and the number, as they are printed
unfoldable pub fault_text : ReplayFault → List ℕ
fault_text fault = name_of fault ++ codes " " ++ decimal (number_of fault)
