use Rattle.std.proofs.Common.{◌≡◌, ◌-◌, None, length}
use Rattle.host_block.specs.Ordered.{IsInOrder, KeepsReceipts, SameParts}
use Rattle.host_block.proofs.parts.run_block.Given as goal

abbrev pub invariant-loop-p : goal.invariant-loop-p
invariant-loop-p l = record {
  in_order : IsInOrder l.p;
  unlisted : l.p.listed ≡ None;
  leaves : SameParts l.fn.p l.p;
  keeps : KeepsReceipts l.fn.p.receipts.items l.p.receipts.items;
}

abbrev pub decreases-loop-p : goal.decreases-loop-p
decreases-loop-p l = length l.p.calls.items - length l.p.receipts.items
