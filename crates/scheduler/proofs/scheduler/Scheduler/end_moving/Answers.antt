use Rattle.std.proofs.Common.{◌≡◌, ◌<◌, arith, length, set, get_or, ap, ◌∙◌}
use Rattle.std.proofs.lemmas.List.{get_or_default}
use Rattle.stm_state.specs.declared.state.Status.TheVariants.{Executed}
use Rattle.stm_state.specs.declared.state.Task.TheVariants.{Idle}
use Rattle.stm_state.specs.State.{fresh}
use Rattle.scheduler.specs.Schedule.{Schedule}
use Rattle.scheduler.proofs.Seen.{call_changed, rooms_kept, task_changed}
use Rattle.scheduler.proofs.scheduler.Scheduler.end_moving.Goals as goal

pub returns-clause-state : goal.returns-clause-state
returns-clause-state c =
    let calls = c.self.inside.calls.items in
    let workers = c.self.inside.workers.items in
    let i = c.from.result in
    let is = c.from.ensures in
    let old = c.index_mut.result.now in
    let lengths = ap (λ (t : Schedule). length t.calls) c.self.view_is in
    let within : i < length calls = omega (arith, is, lengths, c.requires.within.1) in
    let was : old ≡ get_or calls i fresh = c.index_mut.ensures.value ∙ get_or_default calls i old fresh within in
    let changed = call_changed calls c.self.inside.execution c.self.inside.validation c.self.inside.key_room workers c.args.self.now c.self.view_is (λ k. record k { status = Executed }) i c.args.call old is was in
    task_changed (set calls i (record old { status = Executed })) c.self.inside.execution c.self.inside.validation c.self.inside.key_room workers c.args.worker (record c.args.self.now { calls = set c.args.self.now.calls c.args.call (record (get_or c.args.self.now.calls c.args.call fresh) { status = Executed }) })
    changed c.requires.within.0 c.index_mut-2.result.now c.begin.new.self c.index_mut-2.ensures.value (λ _. Idle) c.begin.new.self.room c.begin.ensures

pub returns-clause-rooms : goal.returns-clause-rooms
returns-clause-rooms c = rooms_kept c.self.inside.calls.items c.self.inside.execution c.self.inside.validation c.self.inside.key_room c.self.inside.workers.items c.args.worker c.args.self.now c.self.view_is c.requires.within.0 c.index_mut-2.result.now c.begin.new.self c.index_mut-2.ensures.value
