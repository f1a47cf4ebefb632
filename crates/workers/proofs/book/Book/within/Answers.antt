use Rattle.workers.proofs.Passings.{none_passed}
use Rattle.workers.proofs.book.Book.within.Goals as goal

pub invariant_of-result : goal.invariant_of-result
invariant_of-result g c = (tt, c.requires.job, none_passed c.args.core c.holds.ensures.reached, c.requires.limit)
