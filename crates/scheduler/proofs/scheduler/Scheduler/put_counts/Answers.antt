use Rattle.scheduler.proofs.Seen.{counts_changed}
use Rattle.scheduler.proofs.scheduler.Scheduler.put_counts.Goals as goal

pub returns : goal.returns
returns c = counts_changed c.self.inside.calls.items c.self.inside.execution c.self.inside.validation c.self.inside.key_room c.self.inside.workers.items c.args.worker c.args.self.now c.self.view_is c.requires c.index_mut.result.now c.set_counts.new.self c.index_mut.ensures.value c.args.counts c.set_counts.ensures
