use Rattle.std.proofs.Common.{◌-◌, ap, ◌∙◌, vec_capacity, vec_len}
use Rattle.stm_state.specs.declared.state.Task.{Task}
use Rattle.stm_state.specs.declared.state.Task.TheVariants.{Marking, Moving}
use Rattle.scheduler.specs.Workers.{WorkerState, task_of}
use Rattle.scheduler.proofs.Keys.{marked_dropped, moved_dropped}
use Rattle.scheduler.proofs.worker.Worker.drop_key.Goals as goal

pub returns-clause-moving : goal.returns-clause-moving
returns-clause-moving c = λ call key keys new h.
    let worker = c.self.inside in
    let dropped = moved_dropped worker.task_kind worker.answers.items worker.keys.items worker.dropped call key keys new (ap task_of c.self.view_is ∙ h) in
    ap (λ (t : Task). record { task = t; counts = worker.counts; dones = worker.dones; room = vec_capacity worker.answers - vec_len worker.answers; key_room = vec_capacity worker.keys }) dropped
    ∙ ap (λ (w : WorkerState). record w { task = Moving call keys new }) c.self.view_is

pub returns-clause-marking : goal.returns-clause-marking
returns-clause-marking c = λ call key keys h.
    let worker = c.self.inside in
    let dropped = marked_dropped worker.task_kind worker.answers.items worker.keys.items worker.dropped call key keys (ap task_of c.self.view_is ∙ h) in
    ap (λ (t : Task). record { task = t; counts = worker.counts; dones = worker.dones; room = vec_capacity worker.answers - vec_len worker.answers; key_room = vec_capacity worker.keys }) dropped
    ∙ ap (λ (w : WorkerState). record w { task = Marking call keys }) c.self.view_is
