use Rattle.std.proofs.Common.{◌≡◌, ◌≤◌, ◌<◌, ℕ, true, slice_index_or}
use Rattle.rv_mem.specs.Space.{allows, no_rights}
use Rattle.rv_mem.proofs.rights.range_has.Given as goal

abbrev pub invariant-loop-page : goal.invariant-loop-page
invariant-loop-page l =
    (k : ℕ) → l.first ≤ k → k < l.page → allows l.access (slice_index_or l.rights k no_rights) ≡ true
