-- The ELF header and the program header table, by the places of their fields in the bytes of a file
-- (System V ABI, "Object Files", ELF Header and Program Header). Numbers are little-endian.
use Rattle.std.specs.Prelude.{ℕ, ◌+◌, ◌*◌, List, slice_index, map}
use Rattle.std.specs.List.{range_with_len}
use Rattle.elf32.specs.declared.header.ProgramHeader.{ProgramHeader}

-- Elf32_Half: the number in the two bytes at a place
unfoldable pub half : List ℕ → ℕ → ℕ
half bytes at = slice_index bytes at + 256 * slice_index bytes (at + 1)

-- Elf32_Word, Elf32_Addr and Elf32_Off: the number in the four bytes at a place
unfoldable pub word : List ℕ → ℕ → ℕ
word bytes at =
    slice_index bytes at + 256 * slice_index bytes (at + 1) + 65536 * slice_index bytes (at + 2) + 16777216 * slice_index bytes (at + 3)

-- the fields of the ELF header
abbrev pub e_type : List ℕ → ℕ
e_type bytes = half bytes 16

abbrev pub e_machine : List ℕ → ℕ
e_machine bytes = half bytes 18

abbrev pub e_version : List ℕ → ℕ
e_version bytes = word bytes 20

abbrev pub e_entry : List ℕ → ℕ
e_entry bytes = word bytes 24

abbrev pub e_phoff : List ℕ → ℕ
e_phoff bytes = word bytes 28

abbrev pub e_flags : List ℕ → ℕ
e_flags bytes = word bytes 36

abbrev pub e_ehsize : List ℕ → ℕ
e_ehsize bytes = half bytes 40

abbrev pub e_phentsize : List ℕ → ℕ
e_phentsize bytes = half bytes 42

abbrev pub e_phnum : List ℕ → ℕ
e_phnum bytes = half bytes 44

-- the program header at a place
unfoldable pub header_from : List ℕ → ℕ → ProgramHeader
header_from bytes at = record {
  p_type = word bytes at;
  p_offset = word bytes (at + 4);
  p_vaddr = word bytes (at + 8);
  p_filesz = word bytes (at + 16);
  p_memsz = word bytes (at + 20);
  p_flags = word bytes (at + 24);
}

-- the n-th program header, counted from 0; each has 32 bytes
abbrev pub header_at : List ℕ → ℕ → ProgramHeader
header_at bytes n = header_from bytes (e_phoff bytes + 32 * n)

-- all program headers, in the order of the file
unfoldable pub program_headers : List ℕ → List ProgramHeader
program_headers bytes = map (header_at bytes) (range_with_len 0 (e_phnum bytes))
