use Rattle.std.proofs.Common.{◌∷◌, [], refl}
use Rattle.host_block.specs.declared.parts.Current.TheVariants as current
use Rattle.host_block.specs.declared.parts.Parts.{Parts}
use Rattle.host_block.proofs.InOrder.{receipt_kept, writes_join}
use Rattle.host_block.proofs.parts.keep.Goals as goal

pub returns-in-Ok-clause-in_order : goal.returns-in-Ok-clause-in_order
returns-in-Ok-clause-in_order c =
    let p : Parts = record c.args.p.now { current = current.Ended c.args.receipt c.args.count } in
    let joined = writes_join p p.receipts c.args.receipt c.args.count c.add_writes.new.count c.add_writes.new.touched c.requires.in_order refl refl c.add_writes.ensures.bases c.add_writes.ensures.same c.add_writes.ensures.written in
    receipt_kept _ c.push_reserved.new.self c.args.receipt c.add_writes.new.count joined refl c.in-Ok.ensures.all c.push_reserved.ensures.items

pub returns-in-Err-clause-in_order : goal.returns-in-Err-clause-in_order
returns-in-Err-clause-in_order c =
    let p : Parts = record c.args.p.now { current = current.Ended c.args.receipt c.args.count } in
    writes_join p p.receipts c.args.receipt c.args.count c.add_writes.new.count c.add_writes.new.touched c.requires.in_order refl refl c.add_writes.ensures.bases c.add_writes.ensures.same c.add_writes.ensures.written

pub returns-in-Ok-clause-keeps : goal.returns-in-Ok-clause-keeps
returns-in-Ok-clause-keeps c = (c.args.receipt ∷ [], c.push_reserved.ensures.items)
