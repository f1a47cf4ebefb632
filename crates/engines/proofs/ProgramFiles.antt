-- The programs of files.
use Rattle.std.proofs.Common.{◌≡◌, ℕ, List, [], ◌∷◌, Bool, true, false, cond, refl, subst, inl, inr}
use Rattle.std.specs.Prelude.{Option, Some, None, Result, Ok, Err, IfSome, length, nat_lt}
use Rattle.std.specs.Option.{option_map}
use Rattle.std.specs.Result.{result_map_both}
use Rattle.block_file.specs.Block.{BlockValue}
use Rattle.elf32.specs.Image.{image_of}
use Rattle.elf32.specs.Layout.{Layout}
use Rattle.elf32.specs.declared.error.ElfError.{ElfError}
use Rattle.programs.specs.Programs.{IsProgramFault, file_limit, program_of_file, programs_of, with_program}
use Rattle.programs.specs.declared.fault.ProgramFault.{ProgramFault}
use Rattle.programs.specs.declared.fault.ProgramFault.TheVariants.{Elf, TooLong, Unreadable}
use Rattle.engines.specs.Engine.{IsFileFault, IsJobFault, job_over, program_refusal, programs_in}

-- a program that was loaded from an open file
pub file_program : (content remaining : Option (List ℕ)) (read : List ℕ) (image : Layout) → IfSome content (λ bytes. remaining ≡ Some bytes) → IfSome remaining (λ bytes. read ≡ bytes) → program_of_file read ≡ Ok image → IfSome (option_map program_of_file content) (λ wanted. wanted ≡ Ok image)
file_program None remaining read image opened is loaded = tt
file_program (Some bytes) remaining read image opened is loaded =
    subst (λ b. program_of_file b ≡ Ok image) (subst (λ r. IfSome r (λ b. read ≡ b)) opened is) loaded

-- and one that was refused
pub file_fault : (content remaining : Option (List ℕ)) (may_fail : Type 0) (fault : ProgramFault) → IfSome content (λ bytes. remaining ≡ Some bytes) → (may_fail → content ≡ None) → IsFileFault may_fail (option_map program_of_file remaining) fault → IsProgramFault (option_map program_of_file content) fault
file_fault None remaining may_fail fault opened readable h = inr tt
file_fault (Some bytes) remaining may_fail Unreadable opened readable h = let none = readable h in cc
file_fault (Some bytes) remaining may_fail TooLong opened readable h = subst (λ r. IsProgramFault (option_map program_of_file r) TooLong) opened h
file_fault (Some bytes) remaining may_fail (Elf fault) opened readable h = subst (λ r. IsProgramFault (option_map program_of_file r) (Elf fault)) opened h

-- no file that was read is unreadable
read_file : (is_long : Bool) (image : Result Layout ElfError) → cond is_long (Err TooLong) (result_map_both (λ i. i) Elf image) ≡ Err Unreadable → ⊥
read_file true image is = cc
read_file false (Ok i) is = cc
read_file false (Err fault) is = cc

next_readable : (next : Result Layout ProgramFault) (rest : Option (Result (List Layout) ProgramFault)) → (next ≡ Err Unreadable → ⊥) → (rest ≡ Some (Err Unreadable) → ⊥) → with_program (Some next) rest ≡ Some (Err Unreadable) → ⊥
next_readable (Err fault) rest never others is = never cc
next_readable (Ok image) None never others is = cc
next_readable (Ok image) (Some (Ok images)) never others is = cc
next_readable (Ok image) (Some (Err fault)) never others is = others cc

at_path : (content : Option (List ℕ)) (rest : Option (Result (List Layout) ProgramFault)) → (rest ≡ Some (Err Unreadable) → ⊥) → with_program (option_map program_of_file content) rest ≡ Some (Err Unreadable) → ⊥
at_path None rest others is = cc
at_path (Some bytes) rest others is = next_readable (program_of_file bytes) rest (read_file (nat_lt file_limit (length bytes)) (image_of bytes)) others is

readable : (content : List ℕ → Option (List ℕ)) (paths : List (List ℕ)) → programs_of (programs_in content) paths ≡ Some (Err Unreadable) → ⊥
readable content [] is = cc
readable content (path ∷ paths) is = at_path (content path) (programs_of (programs_in content) paths) (readable content paths) is

of_programs : (block : BlockValue) (programs : Option (Result (List Layout) ProgramFault)) (fault : ProgramFault) → IfSome programs (λ w. w ≡ Err fault) → IfSome (option_map (result_map_both (job_over block) program_refusal) programs) (λ w. w ≡ Err (program_refusal fault))
of_programs block None fault h = tt
of_programs block (Some (Ok images)) fault h = cc
of_programs block (Some (Err first)) fault h = cc

unknown : (block : BlockValue) (programs : Option (Result (List Layout) ProgramFault)) → (programs ≡ Some (Err Unreadable) → ⊥) → IfSome programs (λ w. w ≡ Err Unreadable) → option_map (result_map_both (job_over block) program_refusal) programs ≡ None
unknown block None never h = refl
unknown block (Some w) never h = absurd (never cc)

-- a fault of the programs of a block is one of its job
pub job_fault : (content : List ℕ → Option (List ℕ)) (block : BlockValue) (fault : ProgramFault) → IsProgramFault (programs_of (programs_in content) block.programs) fault → IsJobFault ⊥ content (Ok block) (program_refusal fault)
job_fault content block (Elf fault) (inl memory) = inl (cc, refl)
job_fault content block (Elf fault) (inr w) = inr (of_programs block (programs_of (programs_in content) block.programs) (Elf fault) w)
job_fault content block TooLong (inl memory) = cc
job_fault content block TooLong (inr w) = of_programs block (programs_of (programs_in content) block.programs) TooLong w
job_fault content block Unreadable (inl memory) = cc
job_fault content block Unreadable (inr w) = inr (unknown block (programs_of (programs_in content) block.programs) (readable content block.programs) w)
