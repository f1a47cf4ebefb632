use Rattle.rv_text.proofs.Sizes.{one_more}
use Rattle.rv_text.proofs.layout.Layout.add_item.Goals as goal

pub invariant_of-self-2-clause-counted : goal.invariant_of-self-2-clause-counted
invariant_of-self-2-clause-counted c = rw (c.in_ok-push.ensures.items) (one_more _ _ _ _ c.args.self.now.counted c.text_bytes-count.ensures)
