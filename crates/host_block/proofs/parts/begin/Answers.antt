use Rattle.std.proofs.Common.{◌≡◌, ◌<◌, Some, length, slice_get, refl, subst, sym, rules}
use Rattle.std.proofs.lemmas.Option.{slice_get_read}
use Rattle.host_block.specs.Ordered.{IsInOrder}
use Rattle.host_block.specs.declared.parts.Parts.{Parts}
use Rattle.host_block.proofs.InOrder.{begins}
use Rattle.host_block.proofs.parts.begin.Goals as goal

pub returns-in_ok-run-clause-in_order : goal.returns-in_ok-run-clause-in_order
returns-in_ok-run-clause-in_order c =
    let p = c.make_room.new.p in
    let in_order : IsInOrder p = subst IsInOrder (sym c.make_room.ensures) c.requires.in_order in
    let more : length p.receipts.items < length p.calls.items = subst (λ (q : Parts). length q.receipts.items < length q.calls.items) (sym c.make_room.ensures) c.requires.more in
    let count : c.len.result ≡ length p.receipts.items = search rules in
    let at : slice_get p.calls.items (length p.receipts.items) ≡ Some c.index.result.now =
    slice_get_read p.calls.items (length p.calls.items) (length p.receipts.items) c.index.result.now refl more (rw count at c.index.ensures) in
    begins p c.in_ok-run.run' c.index.result.now c.replace-spare.new.dest in_order more c.in-Next.is at c.in_ok-run.ensures
