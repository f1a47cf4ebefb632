-- Memory before the first instruction of a call.
use Rattle.std.specs.Prelude.{ℕ, ◌-◌, List}
use Rattle.elf32.specs.Extent.{first_address, input_address, page_count}
use Rattle.elf32.specs.Layout.{Layout}
use Rattle.elf32.specs.Pages.{overwritten_at, segment_bytes, page_rights}
use Rattle.rv_mem.specs.Space.{Space}

-- the memory of a program and an input: the file bytes at their addresses, the input at 0x100000,
-- and zeros elsewhere
abbrev pub start_space : Layout → List ℕ → Space
start_space layout input = record {
  bytes = overwritten_at (segment_bytes layout.segments) (input_address - first_address) input;
  rights = page_rights page_count layout.segments;
}
