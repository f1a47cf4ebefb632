-- What opening an image makes of a handle.
use Rattle.std.specs.Prelude.{◌≡◌, ◌⊎◌, ℕ, List, Option, Some, None, Result, Ok, Err, IsOk}
use Rattle.std.specs.Arc.{arc_value}
use Rattle.elf32.specs.Layout.{Layout}
use Rattle.elf32.specs.declared.error.ElfError.TheVariants as elf
use Rattle.programs.specs.Programs.{program_of_file}
use Rattle.programs.specs.declared.fault.ProgramFault.{ProgramFault}
use Rattle.programs.specs.declared.fault.ProgramFault.TheVariants as fault
use Rattle.session_turns.specs.Replies.{frame_refusal_parts}
use Rattle.session_turns.specs.declared.refusal.FrameRefusal.{FrameRefusal}
use Rattle.session_turns.specs.declared.refusal.FrameRefusal.TheVariants as refusal
use Rattle.rvstm_c.specs.Refusals.{handed_out, no_parts}
use Rattle.rvstm_c.specs.Statuses.{already_open, closed, done, no_memory, refused}
use Rattle.rvstm_c.specs.declared.image.EmbeddedImage.{EmbeddedImage}
use Rattle.rvstm_c.specs.declared.refusal.RefusalParts.{RefusalParts}

-- the refusal of a file; none if memory ran out
abbrev pub file_refusal : ProgramFault → Option FrameRefusal
file_refusal fault.TooLong = Some refusal.FileTooLong
file_refusal fault.Unreadable = None
file_refusal (fault.Elf elf.Memory) = None
file_refusal (fault.Elf other) = Some (refusal.Elf other)

-- a handle that had no image has one of a program, or memory ran out
abbrev pub IsImageMade : Layout → ℕ → Option EmbeddedImage → Type 0
IsImageMade program status after =
    ((status ≡ done) × (image : EmbeddedImage) × (after ≡ Some image) × (arc_value image.program ≡ program)) ⊎ ((status ≡ no_memory) × (after ≡ None))

-- a handle that had no image: it has the program of the file; or the file is refused; or memory ran out
abbrev pub IsOpenedOver : Result Layout ProgramFault → ℕ → Option EmbeddedImage → RefusalParts → Type 0
IsOpenedOver program status after parts =
    ((status ≡ done) × (parts ≡ no_parts) × (image : EmbeddedImage) × (after ≡ Some image) × (program ≡ Ok (arc_value image.program)))
    ⊎ ((status ≡ refused) × (after ≡ None) × (given : ProgramFault) × (why : FrameRefusal) × (program ≡ Err given) × (file_refusal given ≡ Some why) × (parts ≡ handed_out (frame_refusal_parts why)))
    ⊎ ((status ≡ no_memory) × (after ≡ None) × (parts ≡ no_parts) × IsOk program)

-- an image was opened over a file
abbrev pub IsImageOpened : List ℕ → Option EmbeddedImage → ℕ → Option EmbeddedImage → RefusalParts → Type 0
IsImageOpened file (Some before) status after parts = (status ≡ already_open) × (after ≡ Some before) × (parts ≡ no_parts)
IsImageOpened file None status after parts = IsOpenedOver (program_of_file file) status after parts

-- a handle was closed
abbrev pub IsImageClosed : Option EmbeddedImage → ℕ → Type 0
IsImageClosed None status = status ≡ closed
IsImageClosed (Some image) status = status ≡ done
