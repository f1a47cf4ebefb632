use Rattle.std.proofs.Common.{◌≡◌, ◌<◌, ℕ, arith, length, set, get_or, ap, ◌∙◌}
use Rattle.std.proofs.lemmas.List.{get_or_default}
use Rattle.stm_state.specs.declared.state.CallState.{CallState}
use Rattle.stm_state.specs.declared.state.Status.TheVariants.{Aborting}
use Rattle.stm_state.specs.declared.state.Task.TheVariants.{Marking}
use Rattle.stm_state.specs.State.{fresh, with_call, with_task}
use Rattle.stm_state.specs.Steps.{keys_of, written_by}
use Rattle.scheduler.specs.Schedule.{Schedule, state_of}
use Rattle.scheduler.proofs.Seen.{call_changed, rooms_kept, task_changed}
use Rattle.scheduler.proofs.scheduler.Scheduler.begin_abort.Goals as goal

pub returns-clause-state : goal.returns-clause-state
returns-clause-state c =
    let calls = c.self.inside.calls.items in
    let workers = c.self.inside.workers.items in
    let i = c.from.result in
    let is = c.from.ensures in
    let old = c.index_mut-aborted.result.now in
    let lengths = ap (λ (t : Schedule). length t.calls) c.self.view_is in
    let within : i < length calls = omega (arith, is, lengths, c.requires.within.1) in
    let was : old ≡ get_or calls i fresh = c.index_mut-aborted.ensures.value ∙ get_or_default calls i old fresh within in
    let changed = call_changed calls c.self.inside.execution c.self.inside.validation c.self.inside.key_room workers c.args.self.now c.self.view_is (λ k. record k { status = Aborting }) i c.args.call old is was in
    let seen : get_or calls i fresh ≡ get_or c.args.self.now.calls c.args.call fresh = ap (λ (t : Schedule). get_or t.calls i fresh) c.self.view_is ∙ ap (λ (k : ℕ). get_or c.args.self.now.calls k fresh) is in
    λ v p. task_changed (set calls i (record old { status = Aborting })) c.self.inside.execution c.self.inside.validation c.self.inside.key_room workers c.args.worker (record c.args.self.now { calls = set c.args.self.now.calls c.args.call (record (get_or c.args.self.now.calls c.args.call fresh) { status = Aborting }) })
    changed c.requires.within.0 c.index_mut.result.now c.begin_marking.new.self c.index_mut.ensures.value (λ _. Marking c.args.call (keys_of (written_by old.last))) c.begin_marking.new.self.room c.begin_marking.ensures v p
    ∙ ap (λ (k : CallState). with_task c.args.worker (Marking c.args.call (keys_of (written_by k.last))) (with_call c.args.call (record (get_or c.args.self.now.calls c.args.call fresh) { status = Aborting }) (state_of v p c.args.self.now))) (was ∙ seen)

pub returns-clause-rooms : goal.returns-clause-rooms
returns-clause-rooms c = rooms_kept c.self.inside.calls.items c.self.inside.execution c.self.inside.validation c.self.inside.key_room c.self.inside.workers.items c.args.worker c.args.self.now c.self.view_is c.requires.within.0 c.index_mut.result.now c.begin_marking.new.self c.index_mut.ensures.value
