-- What an ELF file of this profile stands for: an entry and its segments.
use Rattle.std.specs.Prelude.{ℕ, ◌+◌, ◌≤◌, List, length}
use Rattle.elf32.specs.Extent.{first_address, input_address}
use Rattle.elf32.specs.declared.segment.Segment.{Segment}

-- a loaded program: the address at which it begins, and its PT_LOAD segments in the order of their headers
pub record Layout : Type 0 where
  pub entry : ℕ
  pub segments : List Segment

-- a segment lies between the first address and the input's, and its file bytes lie in it
pub record IsPlaced (s : Segment) : Type 0 where
  pub first : first_address ≤ s.address
  pub last : s.address + s.size ≤ input_address
  pub filled : length s.content ≤ s.size
