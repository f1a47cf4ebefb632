use Rattle.std.proofs.Common.{◌≡◌, All, map}
use Rattle.workers.specs.DoneCell.{IsPassOf}
use Rattle.workers.specs.Book.{counts_of_share, zero_counts_of_all}
use Rattle.workers.proofs.shared.new_shares.Given as goal

abbrev pub invariant-loop-worker : goal.invariant-loop-worker
invariant-loop-worker l =
    (map counts_of_share l.shares.items ≡ zero_counts_of_all l.worker) × All (λ share. IsPassOf l.cell share.pass) l.shares.items
