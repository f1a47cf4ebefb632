use Rattle.std.proofs.Common.{◌∙◌, ap, refl, sym}
use Rattle.hex.specs.Hex.{encode_lower}
use Rattle.receipts.proofs.Buffers.{appended_all, appended_more, none_yet}
use Rattle.receipts.proofs.Hexed.{hex_append}
use Rattle.receipts.proofs.digits.push_hex.Goals as goal

pub loop-rest-init : goal.loop-rest-init
loop-rest-init g c = none_yet _ _ _

pub loop-rest-preserved : goal.loop-rest-preserved
loop-rest-preserved g c =
    let halves = ap encode_lower c.split_at.ensures.by_index.0 ∙ hex_append c.split_at.result.0.now c.split_at.result.1.now in
    appended_more _ c.loop-rest.invariant c.push_sixteen.ensures (sym halves)

pub returns : goal.returns
returns g c = appended_all c.loop-rest.invariant c.push_fours.ensures refl
