use Rattle.elf32.specs.Pages.{segment_bytes}
use Rattle.elf32.proofs.Filled.{Filled}
use Rattle.elf32.proofs.base_pages.base_pages.Given as goal

abbrev pub invariant-loop-page : goal.invariant-loop-page
invariant-loop-page l = Filled l.pages.items l.index l.page (segment_bytes l.segments)
