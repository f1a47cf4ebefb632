use Rattle.std.proofs.Common.{◌≡◌, ◌∙◌, None, Some, length, length-set, sym, ap}
use Rattle.std.specs.FinMap as map
use Rattle.read_set.specs.Origin.{Origin}
use Rattle.mvmap.specs.Answers.{with_amount}
use Rattle.mvmap.specs.Reading.{reading, value_seen}
use Rattle.stm_state.specs.declared.state.Task.{Task}
use Rattle.stm_state.specs.State.{State, with_task}
use Rattle.stm_state.specs.Steps.{counted, one_step}
use Rattle.scheduler.specs.Schedule.{state_of}
use Rattle.scheduler.specs.Workers.{blocked_on, with_answer}
use Rattle.stm_core.proofs.Answered.{blocked_task, given_task}
use Rattle.stm_core.proofs.read_room.ReadRoom.read_from_map.Goals as goal

pub returns-in-Base-clause-state : goal.returns-in-Base-clause-state
returns-in-Base-clause-state c = λ store is answers runs v p.
    let seen = reading c.args.map.now.versions c.args.key.now c.args.call in
    let tells = c.in-Base.ensures.tells in
    let from : Origin = record { passed = c.read_lent.new.passed.items; bottom = None } in
    let value_is : value_seen (map.get store c.args.key.now) seen ≡ c.contents-found.result.kept =
    tells.2 (map.get store c.args.key.now) ∙ ap (λ x. with_amount x c.in-Base.sum) (sym is) ∙ sym c.contents-found.ensures.kept in
    c.give.ensures.state v p
    ∙ ap (λ (t : Task). counted one_step c.args.worker (with_task c.args.worker (with_answer (record { key = c.args.key.now; value = c.contents-found.result.kept; origin = from }) t) (state_of v p c.args.scheduler.now))) runs
    ∙ ap (λ (t : Task). counted one_step c.args.worker (with_task c.args.worker t (state_of v p c.args.scheduler.now))) (given_task store c.args.key.now c.args.call answers seen tells.0 c.contents-found.result.kept from value_is tells.1)

pub returns-in-Found-clause-state : goal.returns-in-Found-clause-state
returns-in-Found-clause-state c = λ store is answers runs v p.
    let seen = reading c.args.map.now.versions c.args.key.now c.args.call in
    let tells = c.in-Found.ensures.tells in
    let from : Origin = record { passed = c.read_lent.new.passed.items; bottom = Some c.in-Found.version } in
    c.give-in-Found.ensures.state v p
    ∙ ap (λ (t : Task). counted one_step c.args.worker (with_task c.args.worker (with_answer (record { key = c.args.key.now; value = c.contents-found-in-Found.result.kept; origin = from }) t) (state_of v p c.args.scheduler.now))) runs
    ∙ ap (λ (t : Task). counted one_step c.args.worker (with_task c.args.worker t (state_of v p c.args.scheduler.now))) (given_task store c.args.key.now c.args.call answers seen tells.0 c.contents-found-in-Found.result.kept from (tells.2 (map.get store c.args.key.now) ∙ sym c.contents-found-in-Found.ensures.kept) tells.1)

pub returns-in-Estimate-clause-state : goal.returns-in-Estimate-clause-state
returns-in-Estimate-clause-state c = λ store is answers runs v p.
    c.block.ensures.state v p
    ∙ ap (λ (t : Task). counted one_step c.args.worker (with_task c.args.worker (blocked_on c.in-Estimate.writer t) (state_of v p c.args.scheduler.now))) runs
    ∙ ap (λ (t : Task). counted one_step c.args.worker (with_task c.args.worker t (state_of v p c.args.scheduler.now)))
    (blocked_task store c.args.key.now c.args.call answers (reading c.args.map.now.versions c.args.key.now c.args.call) c.in-Estimate.writer c.in-Estimate.ensures.tells)

pub returns-in-Base-clause-workers : goal.returns-in-Base-clause-workers
returns-in-Base-clause-workers c = ap (λ (s : State). length s.tasks) (c.give.ensures.state c.args.map.now.versions 0) ∙ length-set c.args.scheduler.now.tasks c.args.worker _

pub returns-in-Found-clause-workers : goal.returns-in-Found-clause-workers
returns-in-Found-clause-workers c = ap (λ (s : State). length s.tasks) (c.give-in-Found.ensures.state c.args.map.now.versions 0) ∙ length-set c.args.scheduler.now.tasks c.args.worker _

pub returns-in-Estimate-clause-workers : goal.returns-in-Estimate-clause-workers
returns-in-Estimate-clause-workers c = ap (λ (s : State). length s.tasks) (c.block.ensures.state c.args.map.now.versions 0) ∙ length-set c.args.scheduler.now.tasks c.args.worker _
