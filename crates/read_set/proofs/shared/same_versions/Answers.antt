use Rattle.std.proofs.Common.{arith, refl}
use Rattle.std.proofs.lemmas.List.{same_lists}
use Rattle.read_set.proofs.shared.same_versions.Goals as goal

pub returns : goal.returns
returns c = ((λ _. same_lists c.args.left.now c.args.right.now (omega arith) (λ k d l. c.loop-i.invariant k d (omega arith))), (λ _. refl))
