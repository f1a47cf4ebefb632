-- Private help of proofs; no public clause cites it.
use Rattle.std.specs.Prelude.{ℕ, ◌+◌, ◌*◌, ◌≤◌, List, length}
use Rattle.elf32.specs.declared.header.ProgramHeader.{ProgramHeader}
use Rattle.elf32.specs.Header.{e_phoff, e_phnum}
use Rattle.elf32.specs.Extent.{first_address, input_address}

-- the header and the program header table lie in the file, and there are at most 8 program headers
pub record IsReadable (bytes : List ℕ) : Type 0 where
  pub header : 52 ≤ length bytes
  pub count : e_phnum bytes ≤ 8
  pub table : e_phoff bytes + 32 * e_phnum bytes ≤ length bytes

-- a PT_LOAD of a file of `len` bytes does not have fault 11
pub record IsInRange (len : ℕ) (p : ProgramHeader) : Type 0 where
  pub filled : p.p_filesz ≤ p.p_memsz
  pub in_file : p.p_offset + p.p_filesz ≤ len
  pub first : first_address ≤ p.p_vaddr
  pub last : p.p_vaddr + p.p_memsz ≤ input_address
