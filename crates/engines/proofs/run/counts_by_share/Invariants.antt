use Rattle.std.proofs.Common.{◌≡◌, ◌++◌, drop, map}
use Rattle.engines.proofs.run.counts_by_share.Given as goal

-- the counts so far, and those of the shares that are left, make the counts
abbrev pub invariant-loop-share : goal.invariant-loop-share
invariant-loop-share l = l.did.items ++ map (λ share. share.counts) (drop l.share-index l.shares) ≡ map (λ share. share.counts) l.shares
