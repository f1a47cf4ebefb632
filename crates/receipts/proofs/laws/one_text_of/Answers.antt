-- Both results are in range.
use Rattle.receipts.proofs.OneText.{one_text}
use Rattle.receipts.proofs.laws.one_text_of.Goals as goal

pub returns : goal.returns
returns c =
    let mine = rw c.as_slice.ensures.value at c.are_in_range.ensures in
    let other = rw c.as_slice-2.ensures.value at c.are_in_range-2.ensures in
    one_text c.args.first.now.receipts.items c.args.second.now.receipts.items c.args.first.now.store c.args.second.now.store mine other
