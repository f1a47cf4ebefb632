use Rattle.std.proofs.Common.{◌≡◌, refl, rules}
use Rattle.host_block.specs.declared.parts.Current.TheVariants as current
use Rattle.host_block.proofs.InOrder.{call_ends, room_made}
use Rattle.host_block.proofs.parts.end_call.Goals as goal

pub keep-requires-clause-in_order : goal.keep-requires-clause-in_order
keep-requires-clause-in_order c =
    let was : c.args.p.now.current ≡ current.Run c.in-Run.run' = search rules in
    let ended = call_ends c.args.p.now c.in-Run.run' c.finish_in-answers.result c.keep_answers.new.self c.requires.in_order c.requires.more was c.finish_in-answers.ensures.call c.finish_in-answers.ensures.answers c.one_receipt.ensures in
    room_made _ c.reserve.new.self c.finish_in-answers.result.receipt 0 ended refl c.reserve.ensures.items

pub keep-requires-in-Ended-clause-in_order : goal.keep-requires-in-Ended-clause-in_order
keep-requires-in-Ended-clause-in_order c =
    let was : c.args.p.now.current ≡ current.Ended c.in-Ended.receipt c.in-Ended.count = search rules in
    room_made c.args.p.now c.reserve.new.self c.in-Ended.receipt c.in-Ended.count c.requires.in_order was c.reserve.ensures.items
