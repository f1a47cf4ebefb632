use Rattle.std.proofs.Common.{◌+◌}
use Rattle.scheduler.proofs.Seen.{dones_changed}
use Rattle.scheduler.proofs.scheduler.Scheduler.count_done.Goals as goal

pub returns : goal.returns
returns c = dones_changed c.self.inside.calls.items c.self.inside.execution c.self.inside.validation c.self.inside.key_room c.self.inside.workers.items c.args.worker c.args.self.now c.self.view_is c.requires.within c.index_mut.result.now c.count_done.new.self c.index_mut.ensures.value (λ n. n + 1) c.count_done.ensures
