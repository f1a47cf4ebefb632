use Rattle.std.proofs.Common.{arith}
use Rattle.block_file.proofs.Places.{found_in, none_in}
use Rattle.block_file.proofs.scan.place_of.Goals as goal

pub returns-then-before-lt-LANES : goal.returns-then-before-lt-LANES
returns-then-before-lt-LANES c = found_in c.args.byte c.loop-from.from c.lanes_before-before.result c.args.text.now (omega arith) c.lanes_before-before.ensures c.loop-from.invariant.before c.if-before-lt-LANES.true

pub loop-from-preserved : goal.loop-from-preserved
loop-from-preserved c = record {
  within = omega arith;
  before = none_in c.args.byte c.loop-from.from c.lanes_before-before.result c.args.text.now (omega arith) c.lanes_before-before.ensures c.loop-from.invariant.before c.if-before-lt-LANES.false;
}
