use Rattle.std.proofs.Common.{◌≡◌, fold, take, length}
use Rattle.elf32.specs.Pages.{bytes_of_page, with_segment, zeros}
use Rattle.elf32.proofs.base_pages.page_with.Given as goal

abbrev pub invariant-loop-segment : goal.invariant-loop-segment
invariant-loop-segment l = record {
  value : l.bytes ≡ bytes_of_page l.page (fold with_segment (zeros 1048576) (take l.segment-index l.segments));
  size : length l.bytes ≡ 4096;
}
