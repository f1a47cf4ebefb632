-- What a refusal prints.
use Rattle.std.specs.Prelude.{List, ℕ, ◌++◌, codes}
use Rattle.std.specs.Fmt.{decimal}
use Rattle.elf32.specs.declared.error.ElfError.{ElfError}
use Rattle.elf32.specs.declared.error.ElfError.TheVariants.{Truncated, BadMagic, BadClassOrData, BadVersion, NotExec, NotRiscv, BadFlags, BadHeaderSize, BadCount, BadType, SegmentRange, SegmentOrder, PageShared, WriteExecute, BadEntry, Memory}

-- the number and the name of each
abbrev pub row_of : ElfError → ℕ × List ℕ
row_of Truncated = (1, codes "Truncated")
row_of BadMagic = (2, codes "BadMagic")
row_of BadClassOrData = (3, codes "BadClassOrData")
row_of BadVersion = (4, codes "BadVersion")
row_of NotExec = (5, codes "NotExec")
row_of NotRiscv = (6, codes "NotRiscv")
row_of BadFlags = (7, codes "BadFlags")
row_of BadHeaderSize = (8, codes "BadHeaderSize")
row_of BadCount = (9, codes "BadCount")
row_of BadType = (10, codes "BadType")
row_of SegmentRange = (11, codes "SegmentRange")
row_of SegmentOrder = (12, codes "SegmentOrder")
row_of PageShared = (13, codes "PageShared")
row_of WriteExecute = (14, codes "WriteExecute")
row_of BadEntry = (15, codes "BadEntry")
row_of Memory = (16, codes "Memory")

abbrev pub number_of : ElfError → ℕ
number_of fault = (row_of fault).0

abbrev pub name_of : ElfError → List ℕ
name_of fault = (row_of fault).1

-- the name and the number, as they are printed
unfoldable pub error_text : ElfError → List ℕ
error_text fault = name_of fault ++ codes " " ++ decimal (number_of fault)
