use Rattle.std.proofs.Common.{◌≡◌, ◌<◌, ℕ, Some, arith, length, get_or, sym, ap, ◌∙◌}
use Rattle.std.proofs.lemmas.List.{get_or_default}
use Rattle.stm_state.specs.declared.state.CallState.{CallState}
use Rattle.stm_state.specs.declared.state.Recorded.{Recorded}
use Rattle.stm_state.specs.declared.state.Task.TheVariants.{Moving}
use Rattle.stm_state.specs.State.{fresh, with_task}
use Rattle.stm_state.specs.Steps.{keys_to_move}
use Rattle.scheduler.specs.Schedule.{Schedule, state_of}
use Rattle.scheduler.proofs.Seen.{rooms_kept, task_changed}
use Rattle.scheduler.proofs.scheduler.Scheduler.begin_moving.Goals as goal

pub returns-clause-state : goal.returns-clause-state
returns-clause-state c = λ run at v p.
    let calls = c.self.inside.calls.items in
    let i = c.from.result in
    let is = c.from.ensures in
    let old = c.index.result.now in
    let lengths = ap (λ (t : Schedule). length t.calls) c.self.view_is in
    let within : i < length calls = omega (arith, is, lengths, c.requires.within.1) in
    let was : old ≡ get_or calls i fresh = c.index.ensures ∙ get_or_default calls i old fresh within in
    let seen : get_or calls i fresh ≡ get_or c.args.self.now.calls c.args.call fresh = ap (λ (t : Schedule). get_or t.calls i fresh) c.self.view_is ∙ ap (λ (k : ℕ). get_or c.args.self.now.calls k fresh) is in
    let both : Some c.in-Some.run' ≡ Some run = sym c.in-Some.is ∙ ap (λ (k : CallState). k.last) (was ∙ seen) ∙ at in
    let same : c.in-Some.run' ≡ run = cc in
    task_changed c.self.inside.calls.items c.self.inside.execution c.self.inside.validation c.self.inside.key_room c.self.inside.workers.items c.args.worker c.args.self.now c.self.view_is c.requires.within.0 c.index_mut.result.now c.begin_moving.new.self c.index_mut.ensures.value (λ _. Moving c.args.call (keys_to_move c.args.before.now c.in-Some.run'.receipt.writes) c.args.new_key) c.begin_moving.new.self.room c.begin_moving.ensures v p
    ∙ ap (λ (r : Recorded). with_task c.args.worker (Moving c.args.call (keys_to_move c.args.before.now r.receipt.writes) c.args.new_key) (state_of v p c.args.self.now)) same

pub returns-clause-rooms : goal.returns-clause-rooms
returns-clause-rooms c = rooms_kept c.self.inside.calls.items c.self.inside.execution c.self.inside.validation c.self.inside.key_room c.self.inside.workers.items c.args.worker c.args.self.now c.self.view_is c.requires.within.0 c.index_mut.result.now c.begin_moving.new.self c.index_mut.ensures.value
