use Rattle.std.proofs.Common.{inl, inr}
use Rattle.workers.proofs.Causes.{step_limit_fits}
use Rattle.workers.proofs.book.Book.ready.Goals as goal
use Rattle.workers.proofs.book.Book.ready.Goals.{then-is_spent-via-then-is_spent, then-is_spent-via-else-is_spent+then-are_all_passed}

pub write-requires-then-is_spent : goal.write-requires-then-is_spent
write-requires-then-is_spent g c = step_limit_fits c.args.owed c.args.share.now c.args.self.now (c.is_owed.ensures.0 c.if-not-is_owed.false) (elim c.then-is_spent.branch [
  | then-is_spent-via-then-is_spent w ↦ inl (c.is_spent.ensures.spent.0 w.if-is_spent.true)
  | then-is_spent-via-else-is_spent+then-are_all_passed w ↦ inr (w.are_all_passed.ensures.0 w.if-are_all_passed.true)
])
