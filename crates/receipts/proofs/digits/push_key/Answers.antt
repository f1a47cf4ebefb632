use Rattle.std.proofs.Common.{◌∙◌, ap}
use Rattle.hex.specs.Hex.{encode_lower}
use Rattle.receipts.proofs.Buffers.{appended_then}
use Rattle.receipts.proofs.Hexed.{hex_append}
use Rattle.receipts.proofs.digits.push_key.Goals as goal

pub returns : goal.returns
returns g c =
    let halves = ap encode_lower c.split_at.ensures.by_index.0 ∙ hex_append c.split_at.result.0.now c.split_at.result.1.now in
    let whole = rw c.as_slice.ensures at halves in
    rw whole (appended_then c.push_sixteen.ensures c.push_sixteen-2.ensures)
