-- What a refusal prints.
use Rattle.std.specs.Prelude.{List, ℕ, ◌++◌, codes}
use Rattle.std.specs.Fmt.{decimal}
use Rattle.rv_text.specs.declared.fault.AsmError.{AsmError}
use Rattle.rv_text.specs.declared.fault.AsmCause.{AsmCause}
use Rattle.rv_text.specs.declared.fault.AsmCause.TheVariants.{UnknownMnemonic, BadOperand, ImmediateRange, UnknownLabel, DuplicateLabel, LabelRange, TooLarge, Memory}

-- the number and the name of each
abbrev pub row_of : AsmCause → ℕ × List ℕ
row_of UnknownMnemonic = (1, codes "UnknownMnemonic")
row_of BadOperand = (2, codes "BadOperand")
row_of ImmediateRange = (3, codes "ImmediateRange")
row_of UnknownLabel = (4, codes "UnknownLabel")
row_of DuplicateLabel = (5, codes "DuplicateLabel")
row_of LabelRange = (6, codes "LabelRange")
row_of TooLarge = (7, codes "TooLarge")
row_of Memory = (8, codes "Memory")

abbrev pub number_of : AsmCause → ℕ
number_of cause = (row_of cause).0

abbrev pub name_of : AsmCause → List ℕ
name_of cause = (row_of cause).1

-- both, as they are printed
unfoldable pub cause_text : AsmCause → List ℕ
cause_text cause = name_of cause ++ codes " " ++ decimal (number_of cause)

-- before them the number of the line; Memory has none
abbrev pub line_text : ℕ → AsmCause → List ℕ
line_text line Memory = cause_text Memory
line_text line cause = decimal line ++ codes " " ++ cause_text cause

abbrev pub fault_text : AsmError → List ℕ
fault_text fault = line_text fault.line fault.cause
