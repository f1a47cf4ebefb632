-- Pages of instructions that no store changes.
use Rattle.std.specs.Prelude.{◌≡◌, ◌≤◌, ◌<◌, ℕ, ◌+◌, ◌%◌, ◌-◌, ◌/◌, true, false, List, length, drop, slice_index, All}
use Rattle.byteorder.specs.Endian.{little_number}
use Rattle.elf32.specs.Extent.{first_address, input_address, memory_size, page_count, page_size}
use Rattle.elf32.specs.Pages.{page_at}
use Rattle.elf32.specs.declared.base_pages.BasePages.{BasePages}
use Rattle.rv_mem.specs.Space.{Space, allows_at, bytes_at}
use Rattle.rv_mem.specs.declared.access.Access.TheVariants.{Write, Execute}

-- the first address of the page of an address
abbrev pub page_of : ℕ → ℕ
page_of a = a - a % page_size

-- `code` has the bytes of the page of memory from `first` on, whose bytes may be executed and not stored to
pub record IsCode (memory : Space) (first : ℕ) (code : List ℕ) : Type 0 where
  pub size : memory_size ≤ length memory.bytes
  pub start : first % page_size ≡ 0
  pub executable : allows_at Execute memory.rights first ≡ true
  pub fixed : allows_at Write memory.rights first ≡ false
  pub bytes : code ≡ bytes_at memory first page_size

-- each place that `index` gives is one of the program's pages, which are at most page_count + 1
pub record HasPlaces (program : BasePages) : Type 0 where
  pub few : length program.pages.items ≤ page_count + 1
  pub each : All (λ k. k < length program.pages.items) program.index

-- the place of the page from `first` on among the pages of a program
abbrev pub place_of_page : BasePages → ℕ → ℕ
place_of_page program first = slice_index program.index ((first - first_address) / page_size)

-- memory has the code of a program: the rights are the program's, and so are the bytes of each page before the input
-- that may be executed and not stored to
pub record HasCode (memory : Space) (program : BasePages) : Type 0 where
  pub rights : memory.rights ≡ program.rights
  pub places : HasPlaces program
  pub pages : (first : ℕ) → first % page_size ≡ 0 → first < input_address → allows_at Execute memory.rights first ≡ true → allows_at Write memory.rights first ≡ false → IsCode memory first (page_at program.pages.items (place_of_page program first))

-- the word at a place in a page, its lowest byte first
abbrev pub word_in : List ℕ → ℕ → ℕ
word_in page offset = little_number 4 (drop offset page)
