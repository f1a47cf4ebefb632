-- What `rvstm dis` prints and `rvstm asm` writes, and what they refuse.
use Rattle.std.specs.Prelude.{◌≡◌, ◌≢◌, ◌⊎◌, ℕ, List, [], ◌∷◌, ◌++◌, flat_map, Option, IfSome, Result, Ok, Err, IsOk, if◌then◌else◌, length, ◌==◌, IsUtf8}
use Rattle.std.specs.Option.{option_map}
use Rattle.std.specs.Result.{result_map_both}
use Rattle.elf32.specs.Layout.{Layout}
use Rattle.elf32.specs.Words.{words_of}
use Rattle.elf32.specs.Written.{file_of}
use Rattle.elf32.specs.declared.words.PlacedWord.{PlacedWord}
use Rattle.elf32.specs.declared.error.ElfError.TheVariants as elf
use Rattle.receipts.specs.Text.{word_text}
use Rattle.byte_streams.specs.declared.fault.WriteFault.{WriteFault}
use Rattle.byte_streams.specs.declared.fault.WriteFault.TheVariants as output
use Rattle.rv_names.specs.Text as text
use Rattle.rv_program.specs.Sections.{Sections}
use Rattle.rv_text.specs.Assembly.{assembled}
use Rattle.rv_text.specs.declared.fault.AsmError.{AsmError}
use Rattle.rv_text.specs.declared.fault.AsmCause.TheVariants as cause
use Rattle.engines.specs.declared.fault.Refusal.{Refusal}
use Rattle.engines.specs.declared.fault.Refusal.TheVariants.{File, Elf, Output, Asm}
use Rattle.engines.specs.declared.fault.FileFault.TheVariants.{Unreadable}
use Rattle.engines.specs.Engine.{program_refusal, IsFileFault, IsOutputFault, IsCommandRefused}
use Rattle.programs.specs.Programs.{program_of_file}
use Rattle.programs.specs.declared.fault.ProgramFault.{ProgramFault}

-- a line of the listing: the address and the word in eight hex digits each, and the word's text
abbrev pub listing_line : PlacedWord → List ℕ
listing_line placed = word_text placed.address ++ 32 ∷ (word_text placed.word ++ 32 ∷ (text.disassembly placed.word ++ 10 ∷ []))

-- the words of a program's text, ascending
abbrev pub listing_of : Layout → List ℕ
listing_of image = flat_map listing_line (words_of image)

-- what `dis` prints of a file, or its fault
abbrev pub listing_of_file : List ℕ → Result (List ℕ) Refusal
listing_of_file bytes = result_map_both listing_of program_refusal (program_of_file bytes)

-- a refusal of `dis`: a fault of the file, or one of the output of its listing, except Memory
abbrev pub IsListingFault : Type 0 → (WriteFault → Type 0) → Option (List ℕ) → Option (List ℕ) → Option (List ℕ) → Refusal → Type 0
IsListingFault may_fail may_refuse input old new =
    IsCommandRefused old new (λ e. (fault : ProgramFault) × (e ≡ program_refusal fault) × IsFileFault may_fail (option_map program_of_file input) fault)
    (λ text. IfSome input (λ bytes. listing_of_file bytes ≡ Ok text))
    (λ text e. (e ≢ Output output.Memory) × IsOutputFault may_refuse text old new e)

-- the file of an assembled program; one without text words has no entry, and is refused as BadEntry
abbrev pub file_or_fault : Sections → Result (List ℕ) Refusal
file_or_fault program = if length program.text == 0 then Err (Elf elf.BadEntry) else Ok (file_of program)

-- the file that `asm` writes for a source, or the source's first fault
abbrev pub file_of_program : Result Sections AsmError → Result (List ℕ) Refusal
file_of_program (Ok program) = file_or_fault program
file_of_program (Err fault) = Err (Asm fault)

abbrev pub file_of_source : List ℕ → Result (List ℕ) Refusal
file_of_source source = file_of_program (assembled source)

-- a refusal of `asm` before anything is written: a fault of a source in UTF-8 is the first one. Memory of the assembler has
-- line 1, and Memory for the file comes only if the source has no fault. Unreadable comes only if a read may fail or the source
-- is not in UTF-8
abbrev pub IsSourceFault : Type 0 → List ℕ → Refusal → Type 0
IsSourceFault may_fail source (Asm fault) = ((fault.cause ≡ cause.Memory) × (fault.line ≡ 1)) ⊎ (IsUtf8 source × (file_of_source source ≡ Err (Asm fault)))
IsSourceFault may_fail source (Elf fault) = IsUtf8 source × (((fault ≡ elf.Memory) × IsOk (file_of_source source)) ⊎ (file_of_source source ≡ Err (Elf fault)))
IsSourceFault may_fail source (File Unreadable) = may_fail ⊎ ¬ (IsUtf8 source)
IsSourceFault may_fail source _ = ⊥
