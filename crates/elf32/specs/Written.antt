-- The file of an assembled program, and what that file stands for (System V ABI, "Object Files"). Numbers
-- are little-endian.
use Rattle.std.specs.Prelude.{ℕ, ◌+◌, ◌*◌, true, false, List, [], ◌∷◌, ◌++◌, length, flat_map}
use Rattle.byteorder.specs.Endian.{little_bytes}
use Rattle.rv_program.specs.Sections.{Sections}
use Rattle.elf32.specs.Extent.{first_address}
use Rattle.elf32.specs.declared.header.ProgramHeader.{ProgramHeader}
use Rattle.elf32.specs.declared.segment.Segment.{Segment}
use Rattle.elf32.specs.Layout.{Layout}

-- Elf32_Half in two bytes
unfoldable pub half_bytes : ℕ → List ℕ
half_bytes n = little_bytes 2 n

-- Elf32_Word, Elf32_Addr and Elf32_Off in four bytes
unfoldable pub word_bytes : ℕ → List ℕ
word_bytes n = little_bytes 4 n

-- the addresses at which text and data begin in memory
abbrev pub text_address : ℕ
text_address = first_address

abbrev pub data_address : ℕ
data_address = 131072

-- the bytes of some words, each word's low byte first
unfoldable pub text_bytes : List ℕ → List ℕ
text_bytes text = flat_map word_bytes text

-- x if the data are not empty, otherwise nothing
abbrev pub where_data : {X : Type 0} → List ℕ → X → List X
where_data [] x = []
where_data (b ∷ bytes) x = x ∷ []

-- e_ident: magic, class, data, version and nine zeros
abbrev pub e_ident : List ℕ
e_ident = 0x7f ∷ 0x45 ∷ 0x4c ∷ 0x46 ∷ 1 ∷ 1 ∷ 1 ∷ 0 ∷ 0 ∷ 0 ∷ 0 ∷ 0 ∷ 0 ∷ 0 ∷ 0 ∷ 0 ∷ []

-- the kind of the file, and its entry
abbrev pub kind_fields : List ℕ
kind_fields =
    half_bytes 2  -- e_type: ET_EXEC
    ++ half_bytes 243  -- e_machine: EM_RISCV
    ++ word_bytes 1  -- e_version: EV_CURRENT
    ++ word_bytes text_address  -- e_entry

-- the offset and the number of the program headers; there are no section headers
abbrev pub table_fields : ℕ → List ℕ
table_fields count =
    word_bytes 52  -- e_phoff
    ++ word_bytes 0  -- e_shoff
    ++ word_bytes 0  -- e_flags
    ++ half_bytes 52  -- e_ehsize
    ++ half_bytes 32  -- e_phentsize
    ++ half_bytes count  -- e_phnum
    ++ half_bytes 0  -- e_shentsize
    ++ half_bytes 0  -- e_shnum
    ++ half_bytes 0  -- e_shstrndx

-- the ELF header of a file with `count` program headers
unfoldable pub elf_header : ℕ → List ℕ
elf_header count = e_ident ++ kind_fields ++ table_fields count

-- a program header; p_paddr is p_vaddr
unfoldable pub program_header_bytes : ProgramHeader → List ℕ
program_header_bytes p =
    word_bytes p.p_type
    ++ word_bytes p.p_offset
    ++ word_bytes p.p_vaddr
    ++ word_bytes p.p_vaddr  -- p_paddr
    ++ word_bytes p.p_filesz
    ++ word_bytes p.p_memsz
    ++ word_bytes p.p_flags
    ++ word_bytes 4  -- p_align

-- the offset of the text in a file with `count` program headers
abbrev pub sections_offset : ℕ → ℕ
sections_offset count = 52 + 32 * count

-- a PT_LOAD of `size` bytes, all of them in the file
abbrev pub load_header : ℕ → ℕ → ℕ → ℕ → ProgramHeader
load_header offset address size flags = record {
  p_type = 1;
  p_offset = offset;
  p_vaddr = address;
  p_filesz = size;
  p_memsz = size;
  p_flags = flags;
}

-- the number of program headers: one for text, and one for data if there are any
abbrev pub header_count : Sections → ℕ
header_count p = 1 + length (where_data p.data_bytes data_address)

-- the program header of text, with PF_R and PF_X
abbrev pub text_header : Sections → ProgramHeader
text_header p = load_header (sections_offset (header_count p)) text_address (4 * length p.text) 5

-- the program header of data, with PF_R and PF_W
abbrev pub data_header : Sections → ProgramHeader
data_header p =
    load_header (sections_offset (header_count p) + 4 * length p.text) data_address (length p.data_bytes) 6

abbrev pub headers_of : Sections → List ProgramHeader
headers_of p = text_header p ∷ where_data p.data_bytes (data_header p)

-- the file: the header, the program headers, text and data
unfoldable pub file_of : Sections → List ℕ
file_of p =
    elf_header (header_count p) ++ flat_map program_header_bytes (headers_of p) ++ text_bytes p.text ++ p.data_bytes

-- text when it is loaded: readable and executable
abbrev pub text_segment : Sections → Segment
text_segment p = record {
  address = text_address;
  size = 4 * length p.text;
  rights = record { readable = true; writable = false; executable = true };
  content = text_bytes p.text;
}

-- data when they are loaded: readable and writable
abbrev pub data_segment : Sections → Segment
data_segment p = record {
  address = data_address;
  size = length p.data_bytes;
  rights = record { readable = true; writable = true; executable = false };
  content = p.data_bytes;
}

-- the program when it is loaded: it begins with the first text word
abbrev pub program_layout : Sections → Layout
program_layout p = record {
  entry = text_address;
  segments = text_segment p ∷ where_data p.data_bytes (data_segment p);
}
