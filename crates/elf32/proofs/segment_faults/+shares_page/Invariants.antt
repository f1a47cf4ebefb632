use Rattle.std.proofs.Common.{length}
use Rattle.elf32.proofs.segment_faults.+shares_page.Given as goal

abbrev pub decreases-shares_page : goal.decreases-shares_page
decreases-shares_page l = length l.loads.now
