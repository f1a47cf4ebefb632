use Rattle.std.proofs.Common.{arith, sym}
use Rattle.receipts.proofs.Buffers.{appended_more, appended_whole, none_yet}
use Rattle.receipts.proofs.Hexed.{no_bytes, one_off}
use Rattle.receipts.proofs.digits.push_pairs.Goals as goal

pub loop-rest-init : goal.loop-rest-init
loop-rest-init g c = none_yet _ _ _

pub loop-rest-preserved : goal.loop-rest-preserved
loop-rest-preserved g c = appended_more _ c.loop-rest.invariant c.push.ensures (rw (c.as_slice.ensures, c.two_digits.ensures) (sym (one_off c.loop-rest.rest.now (omega arith))))

pub returns : goal.returns
returns g c = appended_whole _ c.loop-rest.invariant (no_bytes c.loop-rest.rest.now (omega arith))
