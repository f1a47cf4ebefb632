-- The memory of a program before its first instruction: the bytes, in pages of 4,096, and the rights of the pages.
use Rattle.std.specs.Prelude.{◌≡◌, ◌≤◌, ◌<◌, ℕ, ◌+◌, ◌-◌, ◌*◌, nat_lt, max, min, Bool, true, false, List, [], ◌++◌, length, take, drop, slice_index_or, map, flat_map, fold, find, replicate, All}
use Rattle.std.specs.List.{range_with_len}
use Rattle.std.specs.Option.{option_map_or}
use Rattle.elf32.specs.Extent.{first_address, memory_size, page_count, page_size}
use Rattle.elf32.specs.declared.base_pages.BasePages.{BasePages}
use Rattle.elf32.specs.declared.segment.Rights.{Rights}
use Rattle.elf32.specs.declared.segment.Segment.{Segment}

-- the list with another written over it from a place on
unfoldable pub overwritten_at : List ℕ → ℕ → List ℕ → List ℕ
overwritten_at bytes place new = take place bytes ++ new ++ drop (place + length new) bytes

-- n zeros
unfoldable pub zeros : ℕ → List ℕ
zeros n = replicate n 0

-- the bytes with the file bytes of a segment at its address (System V ABI, Program Header, PT_LOAD)
abbrev pub with_segment : List ℕ → Segment → List ℕ
with_segment bytes s = overwritten_at bytes (s.address - first_address) s.content

-- the bytes of memory with the file bytes of the segments at their addresses, and zeros elsewhere
unfoldable pub segment_bytes : List Segment → List ℕ
segment_bytes segments = fold with_segment (zeros memory_size) segments

-- the first address of the page k
abbrev pub page_start : ℕ → ℕ
page_start k = first_address + k * page_size

-- the page k has an address of the segment
abbrev pub has_page : ℕ → Segment → Bool
has_page k s = nat_lt (max s.address (page_start k)) (min (s.address + s.size) (page_start k + page_size))

-- the rights of a page that has no address of a segment
abbrev pub data_rights : Rights
data_rights = record { readable = true; writable = true; executable = false }

-- the rights of the page k: those of the first segment with an address in it, or data_rights if there is none
abbrev pub rights_of_page : List Segment → ℕ → Rights
rights_of_page segments k = option_map_or (λ s. s.rights) (find (has_page k) segments) data_rights

-- the rights of the first n pages
unfoldable pub page_rights : ℕ → List Segment → List Rights
page_rights n segments = map (rights_of_page segments) (range_with_len 0 n)

-- the bytes of the page k of memory
abbrev pub bytes_of_page : ℕ → List ℕ → List ℕ
bytes_of_page k memory = take page_size (drop (k * page_size) memory)

-- each of the pages has 4,096 bytes
abbrev pub ArePages : {X : Type 0} → (X → List ℕ) → List X → Type 0
ArePages bytes pages = All (λ p. length (bytes p) ≡ page_size) pages

-- the page at a place among some pages
abbrev pub page_at : List (List ℕ) → ℕ → List ℕ
page_at pages place = slice_index_or pages place []

-- the pages of a program before its first instruction, the place of each page of memory among them, and the rights
pub record HoldSegments (base : BasePages) (segments : List Segment) : Type 0 where
  pub sizes : ArePages (λ p. p) base.pages.items
  pub count : length base.pages.items ≤ page_count + 1
  pub index_len : length base.index ≡ page_count
  pub places : All (λ k. k < length base.pages.items) base.index
  pub bytes : flat_map (page_at base.pages.items) base.index ≡ segment_bytes segments
  pub rights : base.rights ≡ page_rights page_count segments
  pub rights_len : length base.rights ≡ page_count
