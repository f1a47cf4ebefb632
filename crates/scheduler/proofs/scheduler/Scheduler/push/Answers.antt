use Rattle.std.proofs.Common.{◌-◌}
use Rattle.scheduler.specs.Workers.{with_answer}
use Rattle.scheduler.proofs.Seen.{rooms_kept, task_changed}
use Rattle.scheduler.proofs.scheduler.Scheduler.push.Goals as goal

pub returns-clause-state : goal.returns-clause-state
returns-clause-state c = task_changed c.self.inside.calls.items c.self.inside.execution c.self.inside.validation c.self.inside.key_room c.self.inside.workers.items c.args.worker c.args.self.now c.self.view_is c.requires.within c.index_mut.result.now c.push.new.self c.index_mut.ensures.value (with_answer c.args.answer) (c.index_mut.result.now.room - 1) c.push.ensures

pub returns-clause-rooms : goal.returns-clause-rooms
returns-clause-rooms c = rooms_kept c.self.inside.calls.items c.self.inside.execution c.self.inside.validation c.self.inside.key_room c.self.inside.workers.items c.args.worker c.args.self.now c.self.view_is c.requires.within c.index_mut.result.now c.push.new.self c.index_mut.ensures.value
