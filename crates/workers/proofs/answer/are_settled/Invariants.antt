use Rattle.std.proofs.Common.{◌≡◌, ◌<◌, ℕ, Some, slice_get}
use Rattle.workers.specs.declared.book.share.Share.{Share}
use Rattle.workers.specs.Settle.{IsShareOf}
use Rattle.workers.proofs.answer.are_settled.Given as goal

abbrev pub invariant-loop-worker : goal.invariant-loop-worker
invariant-loop-worker g l = (w : ℕ) (share : Share) → w < l.worker → slice_get l.shares w ≡ Some share → IsShareOf w l.core share
