use Rattle.std.proofs.Common.{◌≡◌, map, take, length}
use Rattle.std.specs.List.{range_with_len}
use Rattle.elf32.specs.Pages.{rights_of_page}
use Rattle.elf32.proofs.rights.page_rights.Given as goal

abbrev pub invariant-loop-page : goal.invariant-loop-page
invariant-loop-page g l = record {
  rights : take l.page l.rights ≡ map (rights_of_page l.segments) (range_with_len 0 l.page);
  len : length l.rights ≡ g.row.N;
}
