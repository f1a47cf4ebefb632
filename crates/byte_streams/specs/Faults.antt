-- What a refusal prints.
use Rattle.std.specs.Prelude.{List, ℕ, ◌++◌, codes}
use Rattle.std.specs.Fmt.{decimal}
use Rattle.byte_streams.specs.declared.fault.WriteFault.{WriteFault}
use Rattle.byte_streams.specs.declared.fault.WriteFault.TheVariants.{Io, WroteNothing, Memory}

abbrev pub row_of : WriteFault → ℕ × List ℕ
row_of Io = (1, codes "Io")
row_of WroteNothing = (2, codes "WroteNothing")
row_of Memory = (3, codes "Memory")

abbrev pub number_of : WriteFault → ℕ
number_of fault = (row_of fault).0

abbrev pub name_of : WriteFault → List ℕ
name_of fault = (row_of fault).1

-- both, as they are printed
unfoldable pub fault_text : WriteFault → List ℕ
fault_text fault = name_of fault ++ codes " " ++ decimal (number_of fault)
