use Rattle.stm_core.specs.declared.next_step.NextStep.TheVariants.{Run}
use Rattle.workers.proofs.worker.Worker.run_call.Goals as goal

pub returns-in_default-clause-fault : goal.returns-in_default-clause-fault
returns-in_default-clause-fault g c = c.refuse_memory.ensures (Run c.args.call c.args.incarnation) c.args.self.now.share

pub returns-in_default-reads_made-clause-fault : goal.returns-in_default-reads_made-clause-fault
returns-in_default-reads_made-clause-fault g c = c.refuse_run.ensures (Run c.args.call c.args.incarnation) c.run_to_end.new.self.share
