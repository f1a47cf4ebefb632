use Rattle.std.proofs.Common.{sym, ap, ◌∙◌}
use Rattle.rv_step.specs.Chain.{borne_out}
use Rattle.rv_step.specs.Replies.{replies_of}
use Rattle.rv_step.proofs.Receipts.{one_receipt_lem}
use Rattle.conflicts.specs.Reads.{keys_in}
use Rattle.conflicts.proofs.Used.{keys_used}
use Rattle.conflicts.proofs.reading.reading_of.Goals as goal

pub returns-clause-receipt : goal.returns-clause-receipt
returns-clause-receipt c =
    let replies = replies_of c.in_ok-ended.ended.answers.items in
    (one_receipt_lem c.args.call.now c.args.store.now).no_other replies c.in_ok-ended.ended.receipt c.in_ok-ended.ensures.from
    (ap (λ k. borne_out k replies) (sym c.in_ok-ended.ensures.call) ∙ c.in_ok-ended.ended.borne_out)

pub returns-clause-keys : goal.returns-clause-keys
returns-clause-keys c =
    let replies = replies_of c.in_ok-ended.ended.answers.items in
    c.in_ok-keys.ensures ∙ ap (λ answers. keys_in (replies_of answers)) c.as_slice.ensures.value
    ∙ keys_used c.args.call.now c.args.store.now replies c.in_ok-ended.ended.receipt c.in_ok-ended.ensures.from
    (ap (λ k. borne_out k replies) (sym c.in_ok-ended.ensures.call) ∙ c.in_ok-ended.ended.borne_out)
