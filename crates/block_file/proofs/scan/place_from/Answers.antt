use Rattle.std.proofs.Common.{arith, eq-eqb}
use Rattle.block_file.proofs.Places.{found_at, found_nowhere}
use Rattle.block_file.proofs.scan.place_from.Goals as goal

pub returns-then-text-place : goal.returns-then-text-place
returns-then-text-place c = found_at c.args.byte c.loop-place.place c.args.text.now (omega arith) c.loop-place.invariant (eq-eqb _ _ c.if-text-place.true)

pub returns : goal.returns
returns c = found_nowhere c.args.byte c.args.text.now (λ k lt. c.loop-place.invariant k (omega arith))
