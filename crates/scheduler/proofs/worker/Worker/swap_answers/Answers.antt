use Rattle.std.proofs.Common.{◌-◌, ◌∙◌, ap, drop, vec_capacity, vec_items, vec_len}
use Rattle.scheduler.specs.Workers.{WorkerState, task_of, with_answers}
use Rattle.scheduler.proofs.Answers.{answers_of_run, task_swapped}
use Rattle.scheduler.proofs.worker.Worker.swap_answers.Goals as goal

pub returns-clause-answers : goal.returns-clause-answers
returns-clause-answers c = λ i answers blocked at.
    ap vec_items c.swap.ensures.y_after
    ∙ answers_of_run c.self.inside.task_kind c.self.inside.answers.items (drop c.self.inside.dropped c.self.inside.keys.items) i answers blocked (ap task_of c.self.view_is ∙ at)

pub returns-clause-worker : goal.returns-clause-worker
returns-clause-worker c =
    rw c.swap.ensures.x_after
    (ap (λ t. record { task = t; counts = c.self.inside.counts; dones = c.self.inside.dones; room = vec_capacity c.args.list.now - vec_len c.args.list.now; key_room = vec_capacity c.self.inside.keys })
    (task_swapped c.self.inside.task_kind c.self.inside.answers.items c.args.list.now.items (drop c.self.inside.dropped c.self.inside.keys.items))
    ∙ ap (λ (w : WorkerState). record w { task = with_answers c.args.list.now.items w.task; room = vec_capacity c.args.list.now - vec_len c.args.list.now }) c.self.view_is)
