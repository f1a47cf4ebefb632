use Rattle.std.proofs.Common.{◌≡◌, fold, take}
use Rattle.elf32.specs.Pages.{bytes_of_page, with_segment, zeros}
use Rattle.elf32.proofs.base_pages.has_bytes.Given as goal

abbrev pub invariant-loop-segment : goal.invariant-loop-segment
invariant-loop-segment l =
    bytes_of_page l.page (fold with_segment (zeros 1048576) (take l.segment-index l.segments)) ≡ zeros 4096
