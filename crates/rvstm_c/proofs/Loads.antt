-- A program is not loaded without a refusal only if memory ran out.
use Rattle.std.proofs.Common.{◌≡◌, ◌⊎◌, inl, inr, ℕ, List, Bool, true, false, length, nat_lt, cond, Option, Some, None, Result, Ok, Err, IsOk, refl, sym, subst}
use Rattle.std.specs.Result.{result_map_both}
use Rattle.elf32.specs.Image.{image_of}
use Rattle.elf32.specs.Layout.{Layout}
use Rattle.elf32.specs.declared.error.ElfError.{ElfError}
use Rattle.elf32.specs.declared.error.ElfError.TheVariants as elf
use Rattle.programs.specs.Programs.{file_limit, program_of_file}
use Rattle.programs.specs.declared.fault.ProgramFault.{ProgramFault}
use Rattle.programs.specs.declared.fault.ProgramFault.TheVariants as fault
use Rattle.programs.specs.Programs.{IsProgramFault}
use Rattle.rvstm_c.specs.Images.{IsImageOpened, file_refusal}
use Rattle.rvstm_c.specs.Refusals.{no_parts}
use Rattle.rvstm_c.specs.Statuses.{no_memory}
use Rattle.rvstm_c.specs.declared.image.EmbeddedImage.{EmbeddedImage}

only_memory : (e : ElfError) → file_refusal (fault.Elf e) ≡ None → fault.Elf e ≡ fault.Elf elf.Memory
only_memory elf.Memory h = refl
only_memory elf.Truncated h = cc
only_memory elf.BadMagic h = cc
only_memory elf.BadClassOrData h = cc
only_memory elf.BadVersion h = cc
only_memory elf.NotExec h = cc
only_memory elf.NotRiscv h = cc
only_memory elf.BadFlags h = cc
only_memory elf.BadHeaderSize h = cc
only_memory elf.BadCount h = cc
only_memory elf.BadType h = cc
only_memory elf.SegmentRange h = cc
only_memory elf.SegmentOrder h = cc
only_memory elf.PageShared h = cc
only_memory elf.WriteExecute h = cc
only_memory elf.BadEntry h = cc

by_bytes : (long : Bool) (image : Result Layout ElfError) → cond long (Err fault.TooLong) (result_map_both (λ i. i) fault.Elf image) ≡ Err fault.Unreadable → ⊥
by_bytes true image h = cc
by_bytes false (Ok layout) h = cc
by_bytes false (Err e) h = cc

-- the bytes of a file are there
never_unreadable : (bytes : List ℕ) → program_of_file bytes ≡ Err fault.Unreadable → ⊥
never_unreadable bytes h = by_bytes (nat_lt file_limit (length bytes)) (image_of bytes) h

-- a file that is refused without a refusal of its own is a program
ran_out : (bytes : List ℕ) (given : ProgramFault) → IsProgramFault (Some (program_of_file bytes)) given → (given ≡ fault.Elf elf.Memory → IsOk (program_of_file bytes)) → file_refusal given ≡ None → IsOk (program_of_file bytes)
ran_out bytes fault.TooLong h memory none = cc
ran_out bytes (fault.Elf e) h memory none = memory (only_memory e none)
ran_out bytes fault.Unreadable h memory none = by h
  where
    by : (fault.Unreadable ≡ fault.Elf elf.Memory) ⊎ (program_of_file bytes ≡ Err fault.Unreadable) → IsOk (program_of_file bytes)
    by (inl wrong) = cc
    by (inr wrong) = absurd (never_unreadable bytes wrong)

-- an image is not opened, and no refusal is there
pub opened_none : (bytes : List ℕ) (given : ProgramFault) (old new : Option EmbeddedImage) → old ≡ None → new ≡ None → IsProgramFault (Some (program_of_file bytes)) given
    → (given ≡ fault.Elf elf.Memory → IsOk (program_of_file bytes)) → file_refusal given ≡ None → IsImageOpened bytes old no_memory new no_parts
opened_none bytes given old new none left h memory why = subst (λ o. IsImageOpened bytes o no_memory new no_parts) (sym none) (inr (inr (refl, left, refl, ran_out bytes given h memory why)))
