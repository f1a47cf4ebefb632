use Rattle.std.proofs.Common.{◌≡◌, ◌≤◌, ◌*◌, take}
use Rattle.std.specs.List.{sum_by}
use Rattle.session_turns.proofs.accepting.gas_of.Given as goal

abbrev pub invariant-loop-call : goal.invariant-loop-call
invariant-loop-call l = record {
  summed : l.gas ≡ sum_by (λ call. call.gas) (take l.call-index l.calls);
  small : l.gas ≤ l.call-index * 4294967296;
}
