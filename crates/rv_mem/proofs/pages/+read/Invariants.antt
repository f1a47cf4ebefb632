use Rattle.std.proofs.Common.{length}
use Rattle.rv_mem.proofs.pages.+read.Given as goal

abbrev pub decreases-read : goal.decreases-read
decreases-read l = length l.out.now
