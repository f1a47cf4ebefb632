use Rattle.std.proofs.Common.{◌-◌, ◌∙◌, ap, sym, vec_capacity, vec_len}
use Rattle.scheduler.specs.Workers.{with_answers, worker_room}
use Rattle.scheduler.proofs.Seen.{answers_swapped, room_after, room_before, task_before}
use Rattle.scheduler.proofs.scheduler.Scheduler.swap_answers.Goals as goal

pub returns-clause-answers : goal.returns-clause-answers
returns-clause-answers c = λ i answers blocked at.
    c.swap_answers.ensures.answers i answers blocked (sym (task_before c.self.inside.calls.items c.self.inside.execution c.self.inside.validation c.self.inside.key_room c.self.inside.workers.items c.args.worker c.args.self.now c.self.view_is c.requires c.index_mut.result.now c.swap_answers.new.self c.index_mut.ensures.value) ∙ at)

pub returns-clause-room : goal.returns-clause-room
returns-clause-room c = c.swap_answers.ensures.room ∙ sym (room_before c.self.inside.calls.items c.self.inside.execution c.self.inside.validation c.self.inside.key_room c.self.inside.workers.items c.args.worker c.args.self.now c.self.view_is c.requires c.index_mut.result.now c.swap_answers.new.self c.index_mut.ensures.value)

pub returns-clause-own_room : goal.returns-clause-own_room
returns-clause-own_room c =
    room_after c.self.inside.calls.items c.self.inside.execution c.self.inside.validation c.self.inside.key_room c.self.inside.workers.items c.args.worker c.args.self.now c.self.view_is c.requires c.index_mut.result.now c.swap_answers.new.self c.index_mut.ensures.value
    ∙ ap worker_room c.swap_answers.ensures.worker

pub returns-clause-schedule : goal.returns-clause-schedule
returns-clause-schedule c =
    answers_swapped c.self.inside.calls.items c.self.inside.execution c.self.inside.validation c.self.inside.key_room c.self.inside.workers.items c.args.worker c.args.self.now c.self.view_is c.requires c.index_mut.result.now c.swap_answers.new.self c.index_mut.ensures.value
    (with_answers c.args.list.now.items) (vec_capacity c.args.list.now - vec_len c.args.list.now) c.swap_answers.ensures.worker
