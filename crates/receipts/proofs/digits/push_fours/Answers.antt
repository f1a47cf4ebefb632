use Rattle.std.proofs.Common.{arith, refl, sym}
use Rattle.receipts.proofs.Buffers.{appended_all, appended_more, none_yet}
use Rattle.receipts.proofs.Hexed.{four_off}
use Rattle.receipts.proofs.Lanes.{first_eight}
use Rattle.receipts.proofs.digits.push_fours.Goals as goal

pub loop-rest-init : goal.loop-rest-init
loop-rest-init g c = none_yet _ _ _

pub loop-rest-preserved : goal.loop-rest-preserved
loop-rest-preserved g c = appended_more _ c.loop-rest.invariant c.push.ensures (rw (c.digits_of_four.ensures, first_eight _ _ _ _) (sym (four_off c.loop-rest.rest.now (omega arith))))

pub returns : goal.returns
returns g c = appended_all c.loop-rest.invariant c.push_pairs.ensures refl
