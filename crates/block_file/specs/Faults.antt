-- What a refusal prints.
use Rattle.std.specs.Prelude.{List, ℕ, ◌++◌, codes}
use Rattle.std.specs.Fmt.{decimal}
use Rattle.block_file.specs.declared.fault.BlockFault.{BlockFault}
use Rattle.block_file.specs.declared.fault.Cause.{Cause}
use Rattle.block_file.specs.declared.fault.Cause.TheVariants.{BadHeader, BadLine, BadNumber, BadHex, KeyOrder, UnknownProgram, Limit, Memory}

abbrev pub row_of : Cause → ℕ × List ℕ
row_of BadHeader = (1, codes "BadHeader")
row_of BadLine = (2, codes "BadLine")
row_of BadNumber = (3, codes "BadNumber")
row_of BadHex = (4, codes "BadHex")
row_of KeyOrder = (5, codes "KeyOrder")
row_of UnknownProgram = (6, codes "UnknownProgram")
row_of Limit = (7, codes "Limit")
row_of Memory = (8, codes "Memory")

abbrev pub number_of : Cause → ℕ
number_of cause = (row_of cause).0

abbrev pub name_of : Cause → List ℕ
name_of cause = (row_of cause).1

-- both, as they are printed
unfoldable pub cause_text : Cause → List ℕ
cause_text cause = name_of cause ++ codes " " ++ decimal (number_of cause)

-- the same after the line's number; running out of memory has no line
abbrev pub line_text : ℕ → Cause → List ℕ
line_text line Memory = cause_text Memory
line_text line cause = decimal line ++ codes " " ++ cause_text cause

abbrev pub fault_text : BlockFault → List ℕ
fault_text fault = line_text fault.line fault.cause
