use Rattle.std.proofs.Common.{sym, ◌∙◌}
use Rattle.stm_state.specs.declared.state.Task.TheVariants.{Marking, Moving}
use Rattle.scheduler.proofs.Seen.{rooms_kept, task_before, task_changed}
use Rattle.scheduler.proofs.scheduler.Scheduler.drop_next_key.Goals as goal

pub returns-clause-moving : goal.returns-clause-moving
returns-clause-moving c = λ i key keys new h.
    let before = task_before c.self.inside.calls.items c.self.inside.execution c.self.inside.validation c.self.inside.key_room c.self.inside.workers.items c.args.worker c.args.self.now c.self.view_is c.requires.within c.index_mut.result.now c.drop_key.new.self c.index_mut.ensures.value in
    task_changed c.self.inside.calls.items c.self.inside.execution c.self.inside.validation c.self.inside.key_room c.self.inside.workers.items c.args.worker c.args.self.now c.self.view_is c.requires.within c.index_mut.result.now c.drop_key.new.self c.index_mut.ensures.value (λ _. Moving i keys new) c.index_mut.result.now.room (c.drop_key.ensures.moving i key keys new (sym before ∙ h))

pub returns-clause-marking : goal.returns-clause-marking
returns-clause-marking c = λ i key keys h.
    let before = task_before c.self.inside.calls.items c.self.inside.execution c.self.inside.validation c.self.inside.key_room c.self.inside.workers.items c.args.worker c.args.self.now c.self.view_is c.requires.within c.index_mut.result.now c.drop_key.new.self c.index_mut.ensures.value in
    task_changed c.self.inside.calls.items c.self.inside.execution c.self.inside.validation c.self.inside.key_room c.self.inside.workers.items c.args.worker c.args.self.now c.self.view_is c.requires.within c.index_mut.result.now c.drop_key.new.self c.index_mut.ensures.value (λ _. Marking i keys) c.index_mut.result.now.room (c.drop_key.ensures.marking i key keys (sym before ∙ h))

pub returns-clause-rooms : goal.returns-clause-rooms
returns-clause-rooms c = rooms_kept c.self.inside.calls.items c.self.inside.execution c.self.inside.validation c.self.inside.key_room c.self.inside.workers.items c.args.worker c.args.self.now c.self.view_is c.requires.within c.index_mut.result.now c.drop_key.new.self c.index_mut.ensures.value
