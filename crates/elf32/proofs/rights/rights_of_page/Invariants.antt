use Rattle.std.proofs.Common.{◌≡◌, drop}
use Rattle.elf32.specs.Pages.{rights_of_page}
use Rattle.elf32.proofs.rights.rights_of_page.Given as goal

abbrev pub invariant-loop-segment : goal.invariant-loop-segment
invariant-loop-segment l =
    rights_of_page (drop l.segment-index l.segments) l.page ≡ rights_of_page l.segments l.page
