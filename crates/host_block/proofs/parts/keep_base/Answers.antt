use Rattle.host_block.proofs.InOrder.{base_tried}
use Rattle.host_block.proofs.parts.keep_base.Goals as goal

pub returns-clause-in_order : goal.returns-clause-in_order
returns-clause-in_order c = base_tried c.args.p.now c.args.key c.args.content c.set_base.new.self c.set_base.result c.requires.in_order c.requires.unknown c.requires.unlisted c.set_base.ensures.ok c.set_base.ensures.err
