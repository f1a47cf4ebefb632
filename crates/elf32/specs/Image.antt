-- The program that the bytes of a file stand for, or the least-numbered fault in them.
use Rattle.std.specs.Prelude.{◌≡◌, ℕ, List, map, take, drop, Option, Some, None, Result, Ok, Err, IsOk}
use Rattle.elf32.specs.declared.error.ElfError.{ElfError}
use Rattle.elf32.specs.declared.error.ElfError.TheVariants.{Memory}
use Rattle.elf32.specs.declared.header.ProgramHeader.{ProgramHeader}
use Rattle.elf32.specs.declared.segment.Rights.{Rights}
use Rattle.elf32.specs.declared.segment.Segment.{Segment}
use Rattle.elf32.specs.Header.{e_entry}
use Rattle.elf32.specs.Faults.{has_read, has_write, has_execute, loads, least_fault}
use Rattle.elf32.specs.Layout.{Layout}

abbrev pub rights_of : ProgramHeader → Rights
rights_of p = record { readable = has_read p; writable = has_write p; executable = has_execute p }

-- the segment of a PT_LOAD, with the p_filesz bytes at p_offset; one with p_memsz 0 is kept too, and has no address
abbrev pub segment_of : List ℕ → ProgramHeader → Segment
segment_of bytes p = record {
  address = p.p_vaddr;
  size = p.p_memsz;
  rights = rights_of p;
  content = take p.p_filesz (drop p.p_offset bytes);
}

-- the entry and a segment for each PT_LOAD
abbrev pub layout_of : List ℕ → Layout
layout_of bytes = record { entry = e_entry bytes; segments = map (segment_of bytes) (loads bytes) }

abbrev pub unless_fault : Option ElfError → Layout → Result Layout ElfError
unless_fault (Some fault) layout = Err fault
unless_fault None layout = Ok layout

-- what a file stands for: its program, or the least-numbered fault
unfoldable pub image_of : List ℕ → Result Layout ElfError
image_of bytes = unless_fault (least_fault bytes) (layout_of bytes)

-- a call returns what is wanted, or Memory if a program is wanted
abbrev pub Gives : Result Layout ElfError → Result Layout ElfError → Type 0
Gives (Ok layout) want = want ≡ Ok layout
Gives (Err Memory) want = IsOk want
Gives (Err fault) want = want ≡ Err fault
