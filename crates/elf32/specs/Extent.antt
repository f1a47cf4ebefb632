-- The addresses of memory, and its pages of 4,096 bytes.
use Rattle.std.specs.Prelude.{ℕ}

abbrev pub first_address : ℕ
first_address = 0x1_0000

-- the first address after memory
abbrev pub end_address : ℕ
end_address = 0x11_0000

-- the address of the input; segments end before it
abbrev pub input_address : ℕ
input_address = 0x10_0000

-- how many bytes memory has
abbrev pub memory_size : ℕ
memory_size = 0x10_0000

-- how many bytes a page has
abbrev pub page_size : ℕ
page_size = 4096

-- how many pages memory has
abbrev pub page_count : ℕ
page_count = 256
