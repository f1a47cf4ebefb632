use Rattle.std.proofs.Common.{◌∙◌, ◌++◌, sym}
use Rattle.receipts.proofs.Buffers.{appended_then}
use Rattle.receipts.proofs.Lanes.{whole}
use Rattle.receipts.proofs.digits.push_sixteen.Goals as goal

pub returns : goal.returns
returns g c =
    let digits = (λ i. (c.as_slice.ensures ∙ c.digits_of.ensures.front) i ++ (c.as_slice-2.ensures ∙ c.digits_of.ensures.back) i) ∙ whole c.args.bytes.now c.requires in
    rw (sym digits) (appended_then c.push.ensures c.push-2.ensures)
