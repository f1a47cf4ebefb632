use Rattle.std.proofs.Common.{length}
use Rattle.rv_mem.proofs.pages.+put_in_pages.Given as goal

abbrev pub decreases-put_in_pages : goal.decreases-put_in_pages
decreases-put_in_pages l = length l.new.now
