use Rattle.host_block.proofs.InOrder.{runs_on}
use Rattle.host_block.proofs.parts.run_on.Goals as goal

pub returns-in_err-key-in-Run-clause-in_order : goal.returns-in_err-key-in-Run-clause-in_order
returns-in_err-key-in-Run-clause-in_order c = runs_on c.args.p.now c.in-Run.run' c.run_call.new.run c.run_call.new.touched c.requires.in_order c.requires.more c.in-Run.is c.run_call.ensures.touched c.run_call.ensures.call c.run_call.ensures.from

pub returns-in-Some-clause-in_order : goal.returns-in-Some-clause-in_order
returns-in-Some-clause-in_order c = runs_on c.args.p.now c.in-Run.run' c.run_call.new.run c.run_call.new.touched c.requires.in_order c.requires.more c.in-Run.is c.run_call.ensures.touched c.run_call.ensures.call c.run_call.ensures.from

pub returns-in_default-2-clause-in_order : goal.returns-in_default-2-clause-in_order
returns-in_default-2-clause-in_order c = runs_on c.args.p.now c.in-Run.run' c.run_call.new.run c.run_call.new.touched c.requires.in_order c.requires.more c.in-Run.is c.run_call.ensures.touched c.run_call.ensures.call c.run_call.ensures.from
