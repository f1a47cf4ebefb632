use Rattle.std.proofs.Common.{◌≡◌, ◌≤◌, ◌+◌, ◌*◌, ◌^◌, drop}
use Rattle.std.specs.List.{fold}
use Rattle.conflicts.specs.Sums.{gas_of_all}
use Rattle.conflicts.proofs.sums.gas_of_all.Given as goal

abbrev pub invariant-loop-call : goal.invariant-loop-call
invariant-loop-call l = record {
  value : fold (λ a c. a + c.gas) l.sum (drop l.call-index l.calls) ≡ gas_of_all l.fn.calls;
  bound : l.sum ≤ l.call-index * 2 ^ 32;
}
