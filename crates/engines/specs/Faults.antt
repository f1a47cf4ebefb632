-- What a refusal prints.
use Rattle.std.specs.Prelude.{List, ℕ, ◌++◌, Option, Some, None, codes}
use Rattle.std.specs.Fmt.{decimal}
use Rattle.block_file.specs.Faults as block
use Rattle.block_file.specs.declared.fault.BlockFault.{BlockFault}
use Rattle.block_file.specs.declared.fault.Cause.{Cause}
use Rattle.block_file.specs.declared.fault.Cause.TheVariants as cause
use Rattle.byte_streams.specs.Faults as output
use Rattle.byte_streams.specs.Refusals.{Parts, line_text, without_line}
use Rattle.debugger.specs.Faults as debug
use Rattle.elf32.specs.Refusals as elf
use Rattle.elf32.specs.declared.error.ElfError.{ElfError}
use Rattle.rv_text.specs.Faults as asm
use Rattle.rv_text.specs.declared.fault.AsmCause.{AsmCause}
use Rattle.rv_text.specs.declared.fault.AsmCause.TheVariants as asm_cause
use Rattle.session_states.specs.Faults as store
use Rattle.stm_core.specs.Faults as drive
use Rattle.workers.specs.Faults as run
use Rattle.engines.specs.declared.fault.FileFault.{FileFault}
use Rattle.engines.specs.declared.fault.FileFault.TheVariants.{Unreadable, Unwritable, TooLong}
use Rattle.engines.specs.declared.fault.SeqFault.{SeqFault}
use Rattle.engines.specs.declared.fault.SeqFault.TheVariants.{Memory}
use Rattle.engines.specs.declared.fault.InputFault.{InputFault}
use Rattle.engines.specs.declared.fault.InputFault.TheVariants as input
use Rattle.engines.specs.declared.fault.InputFault.TheVariants.{BadLine, Cut}
use Rattle.engines.specs.declared.fault.Refusal.{Refusal}
use Rattle.engines.specs.declared.fault.Refusal.TheVariants.{File, Block, Elf, Asm, Seq, Schedule, Run, Drive, Debug, Request, Store, Output}

abbrev pub file_row : FileFault → ℕ × List ℕ
file_row Unreadable = (1, codes "Unreadable")
file_row Unwritable = (2, codes "Unwritable")
file_row TooLong = (3, codes "TooLong")

abbrev pub file_number : FileFault → ℕ
file_number fault = (file_row fault).0

abbrev pub file_name : FileFault → List ℕ
file_name fault = (file_row fault).1

-- the name and the number of a refusal of a file, as they are printed
unfoldable pub file_text : FileFault → List ℕ
file_text fault = file_name fault ++ codes " " ++ decimal (file_number fault)

-- the same for a refusal of a run in order
abbrev pub seq_number : SeqFault → ℕ
seq_number Memory = 1

abbrev pub seq_name : SeqFault → List ℕ
seq_name Memory = codes "Memory"

unfoldable pub seq_text : SeqFault → List ℕ
seq_text fault = seq_name fault ++ codes " " ++ decimal (seq_number fault)

-- the same for the input of a session
abbrev pub input_row : InputFault → ℕ × List ℕ
input_row BadLine = (1, codes "BadLine")
input_row Cut = (2, codes "Cut")
input_row input.Unreadable = (3, codes "Unreadable")

abbrev pub input_number : InputFault → ℕ
input_number fault = (input_row fault).0

abbrev pub input_name : InputFault → List ℕ
input_name fault = (input_row fault).1

unfoldable pub input_text : InputFault → List ℕ
input_text fault = input_name fault ++ codes " " ++ decimal (input_number fault)

-- the number of the line of a cause of a text; running out of memory has none
abbrev pub block_line : ℕ → Cause → Option ℕ
block_line line cause.Memory = None
block_line line _ = Some line

-- the parts of a fault of a text, in its area
abbrev pub block_parts : List ℕ → BlockFault → Parts
block_parts area fault = record {
  area = area;
  line = block_line fault.line fault.cause;
  name = block.name_of fault.cause;
  number = block.number_of fault.cause;
}

-- the parts of a fault of a program
abbrev pub elf_parts : ElfError → Parts
elf_parts fault = without_line (codes "elf") (elf.name_of fault) (elf.number_of fault)

-- the number of the line of a cause of a source; running out of memory has none
abbrev pub asm_line : ℕ → AsmCause → Option ℕ
asm_line line asm_cause.Memory = None
asm_line line _ = Some line

-- the parts of what a refusal prints
abbrev pub parts_of : Refusal → Parts
parts_of (File fault) = without_line (codes "file") (file_name fault) (file_number fault)
parts_of (Block fault) = block_parts (codes "block") fault
parts_of (Elf fault) = elf_parts fault
parts_of (Asm fault) = record {
  area = codes "asm";
  line = asm_line fault.line fault.cause;
  name = asm.name_of fault.cause;
  number = asm.number_of fault.cause;
}
parts_of (Seq fault) = without_line (codes "seq") (seq_name fault) (seq_number fault)
parts_of (Schedule fault) = block_parts (codes "schedule") fault
parts_of (Run fault) = without_line (codes "run") (run.name_of fault) (run.number_of fault)
parts_of (Drive fault) = without_line (codes "drive") (drive.name_of fault) (drive.number_of fault)
parts_of (Debug fault) = without_line (codes "debug") (debug.name_of fault) (debug.number_of fault)
parts_of (Request fault) = without_line (codes "request") (input_name fault) (input_number fault)
parts_of (Store fault) = store.store_fault_parts fault
parts_of (Output fault) = without_line (codes "output") (output.name_of fault) (output.number_of fault)

abbrev pub refusal_line : Refusal → List ℕ
refusal_line refusal = line_text (codes "rvstm: ") (parts_of refusal)
