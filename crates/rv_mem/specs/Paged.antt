-- The pages of a call, and the bytes in them. Private help of proofs; no public clause cites it.
use Rattle.std.specs.Prelude.{◌≡◌, ℕ, ◌+◌, ◌-◌, ◌≤◌, ◌<◌, ◌%◌, ◌/◌, nat_lt, ◌==◌, Bool, true, ◌&&◌, if◌then◌else◌, List, ◌++◌, length, flat_map, replicate, slice_index, slice_index_or, All}
use Rattle.std.specs.List.{sum_by}
use Rattle.std.specs.Arc.{arc_value}
use Rattle.elf32.specs.Extent.{memory_size, page_count, page_size}
use Rattle.elf32.specs.Pages.{ArePages, page_at, zeros}
use Rattle.elf32.specs.Places.{first_own}
use Rattle.elf32.specs.declared.base_pages.BasePages.{BasePages}
use Rattle.elf32.specs.declared.segment.Rights.{Rights}
use Rattle.rv_mem.specs.declared.pages.Pages.TheInside.{Inside}
use Rattle.rv_mem.specs.Space.{Space, allows, no_rights}
use Rattle.rv_mem.specs.declared.access.Access.{Access}
use Rattle.rv_mem.specs.declared.access.Access.TheVariants.{Write}

-- the pages of the program
abbrev pub base_of : Inside → BasePages
base_of p = arc_value p.base

-- the first 512 places: the pages of the program, and pages of zeros that no index gives
abbrev pub base_pages : Inside → List (List ℕ)
base_pages p =
    (base_of p).pages.items ++ replicate (first_own - length (base_of p).pages.items) (zeros page_size)

-- these, and after them the call's own
abbrev pub all_pages : Inside → List (List ℕ)
all_pages p = base_pages p ++ p.own.items

abbrev pub memory_bytes : Inside → List ℕ
memory_bytes p = flat_map (page_at (all_pages p)) p.index.items

-- memory as a caller sees it
abbrev pub space_of : Inside → Space
space_of p = record { bytes = memory_bytes p; rights = (base_of p).rights }

-- 1 for a place among the first n pages, otherwise 0
abbrev pub is_shared : ℕ → ℕ → ℕ
is_shared n k = if nat_lt k n then 1 else 0

-- the places `index` of the pages of memory. Those below `count` are shared, and are below `base`. The `own` places from
-- `count` on are the call's own, and each of them is the place of exactly one page
pub record ArePlaced (base count own : ℕ) (index : List ℕ) : Type 0 where
  pub few : base ≤ page_count + 1
  pub len : length index ≡ page_count
  pub places : All (λ k. k < count + own) index
  pub inside : All (λ k. k < count → k < base) index
  pub each : own + sum_by (is_shared count) index ≡ page_count
  pub alone : (i j : ℕ) → i < page_count → j < page_count → count ≤ slice_index index i → slice_index index i ≡ slice_index index j → i ≡ j

-- the page k has the right of an access
abbrev pub IsAllowed : Access → List Rights → ℕ → Type 0
IsAllowed access rights k = allows access (slice_index_or rights k no_rights) ≡ true

-- the number of the page of the input
abbrev pub input_page : ℕ
input_page = 240

-- the page k may be stored to
abbrev pub IsWritable : List Rights → ℕ → Type 0
IsWritable = IsAllowed Write

-- the pages of a call; those that are its own may be stored to
pub record IsPaged (p : Inside) : Type 0 where
  pub sizes : ArePages (λ q. q) (all_pages p)
  pub placed : ArePlaced (length (base_of p).pages.items) first_own (length p.own.items) p.index.items
  pub rights : length (base_of p).rights ≡ page_count
  pub writable : (k : ℕ) → first_own ≤ slice_index p.index.items k → IsWritable (base_of p).rights k

-- the pages from one on and below another have the right of an access
abbrev pub AreAllowed : Access → List Rights → ℕ → ℕ → Type 0
AreAllowed access rights first end = (k : ℕ) → first ≤ k → k < end → IsAllowed access rights k

-- the pages from one on and below another are the call's own
abbrev pub AreOwn : List ℕ → ℕ → ℕ → Type 0
AreOwn places first end = (k : ℕ) → first ≤ k → k < end → first_own ≤ slice_index places k

-- a place in memory is a multiple of n, and its page has the right
abbrev pub is_open : Access → List Rights → ℕ → ℕ → Bool
is_open access rights at n = nat_lt at memory_size && (at % n == 0 && allows access (slice_index_or rights (at / page_size) no_rights))
