-- The programs of files and of blocks, and the calls over them.
use Rattle.std.specs.Prelude.{◌≡◌, ◌⊎◌, ℕ, List, [], ◌∷◌, length, map, nat_lt, slice_index_or, Option, Some, None, IfSome, Result, Ok, Err, if◌then◌else◌}
use Rattle.std.specs.Option.{option_map}
use Rattle.std.specs.Result.{result_map_both}
use Rattle.block_file.specs.Block.{BlockValue, CallValue}
use Rattle.elf32.specs.Image.{image_of}
use Rattle.elf32.specs.Layout.{Layout}
use Rattle.elf32.specs.declared.error.ElfError.TheVariants as elf
use Rattle.rv_ledger.specs.Call.{Invocation}
use Rattle.rv_ledger.specs.declared.rules.Rules.{Rules}
use Rattle.programs.specs.declared.fault.ProgramFault.{ProgramFault}
use Rattle.programs.specs.declared.fault.ProgramFault.TheVariants.{Elf, TooLong}

-- the greatest length of a program's file, in bytes
abbrev pub file_limit : ℕ
file_limit = 131072

-- the program of a file, or its fault
abbrev pub program_of_file : List ℕ → Result Layout ProgramFault
program_of_file bytes = if nat_lt file_limit (length bytes) then Err TooLong else result_map_both (λ image. image) Elf (image_of bytes)

-- a program before others, or the first fault; None if what decides this is unknown
abbrev pub with_program : Option (Result Layout ProgramFault) → Option (Result (List Layout) ProgramFault) → Option (Result (List Layout) ProgramFault)
with_program None rest = None
with_program (Some (Err fault)) rest = Some (Err fault)
with_program (Some (Ok image)) rest = option_map (result_map_both (λ images. image ∷ images) (λ fault. fault)) rest

-- the programs at some paths, or the fault of the first faulty one, whatever comes after it; None if a program before
-- the first faulty one is unknown
abbrev pub programs_of : (List ℕ → Option (Result Layout ProgramFault)) → List (List ℕ) → Option (Result (List Layout) ProgramFault)
programs_of program_at [] = Some (Ok [])
programs_of program_at (path ∷ paths) = with_program (program_at path) (programs_of program_at paths)

-- a refusal that programs meet: that memory ran out, or the wanted one
abbrev pub IsProgramFault : {X : Type 0} → Option (Result X ProgramFault) → ProgramFault → Type 0
IsProgramFault wanted fault = (fault ≡ Elf elf.Memory) ⊎ IfSome wanted (λ w. w ≡ Err fault)

-- the call of a line under the rules of its block, over the program that has its number
abbrev pub call_over : Rules → List Layout → CallValue → Invocation
call_over rules images line = record {
  rules = rules;
  image = slice_index_or images line.program (record { entry = 0; segments = [] });
  gas = line.gas;
  input = line.input;
}

-- the calls of a block over its programs
abbrev pub calls_over : BlockValue → List Layout → List Invocation
calls_over block images = map (call_over block.rules images) block.calls
