use Rattle.std.proofs.Common.{◌≡◌, ◌<◌, ◌≤◌, ℕ, List, IsSome, Some, length, slice_get}
use Rattle.std.specs.FinMap as map
use Rattle.host_block.proofs.InOrder.{all_known}
use Rattle.host_block.proofs.parts.next_sum.Goals as goal

pub returns-in-None-clause-next : goal.returns-in-None-clause-next
returns-in-None-clause-next c =
    let past : length c.in-Some.keys.items ≤ c.first_unknown-p.result = rw c.deref-2.ensures.value at c.in-None.ensures.lookup.3 in
    let known : (k : ℕ) (key : List ℕ) → c.args.p.now.known_sums ≤ k → k < c.first_unknown-p.result → slice_get c.in-Some.keys.items k ≡ Some key → IsSome (map.get c.args.p.now.touched.bases key) =
    rw c.deref.ensures.value at c.first_unknown-p.ensures.known in
    all_known c.args.p.now c.in-Some.keys c.first_unknown-p.result c.requires.in_order c.in-Some.is past known
