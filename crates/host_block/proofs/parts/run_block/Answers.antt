use Rattle.std.proofs.Common.{◌≤◌, length, arith}
use Rattle.host_block.proofs.InOrder.{within}
use Rattle.host_block.proofs.parts.run_block.Goals as goal

pub settle-requires-clause-ended : goal.settle-requires-clause-ended
settle-requires-clause-ended c =
    let p = c.loop-p.p in
    let most : length p.receipts.items ≤ length p.calls.items = within p.calls.items p.receipts.items p.current p.touched.changes p.touched.bases c.loop-p.invariant.in_order.under_way in
    omega (arith, most, c.loop-p-test.false, c.len.ensures, c.len-in-loop-p.ensures)
