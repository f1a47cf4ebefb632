use Rattle.mvmap.proofs.Fills.{on_err}
use Rattle.std.proofs.Common.{ℕ, arith, ap, ◌∙◌}
use Rattle.scheduler.specs.Schedule.{Schedule}
use Rattle.scheduler.proofs.Seen.{key_room_changed}
use Rattle.scheduler.proofs.scheduler.Scheduler.reserve_keys.Goals as goal

pub returns-in_err-reserve_keys-clause-same : goal.returns-in_err-reserve_keys-clause-same
returns-in_err-reserve_keys-clause-same c = key_room_changed c.self.inside.calls.items c.self.inside.execution c.self.inside.validation c.self.inside.key_room c.self.inside.key_room c.self.inside.workers.items c.reserve_keys.new.workers.items c.args.self.now c.self.view_is c.reserve_keys.ensures.same

pub returns-in_err-reserve_keys-clause-unchanged : goal.returns-in_err-reserve_keys-clause-unchanged
returns-in_err-reserve_keys-clause-unchanged c =
    on_err c.from_residual.result _ (key_room_changed c.self.inside.calls.items c.self.inside.execution c.self.inside.validation c.self.inside.key_room c.self.inside.key_room c.self.inside.workers.items c.reserve_keys.new.workers.items c.args.self.now c.self.view_is c.reserve_keys.ensures.same
    ∙ ap (λ (n : ℕ). record c.args.self.now { key_room = n }) (ap (λ (t : Schedule). t.key_room) c.self.view_is))

pub returns-in_ok-reserve_keys-clause-same : goal.returns-in_ok-reserve_keys-clause-same
returns-in_ok-reserve_keys-clause-same c = key_room_changed c.self.inside.calls.items c.self.inside.execution c.self.inside.validation c.self.inside.key_room c.args.count c.self.inside.workers.items c.reserve_keys.new.workers.items c.args.self.now c.self.view_is c.reserve_keys.ensures.same

pub returns-in_err-reserve_keys-clause-succeeds : goal.returns-in_err-reserve_keys-clause-succeeds
returns-in_err-reserve_keys-clause-succeeds c = λ enough. absurd (omega (arith, c.if-count-self.true, enough, ap (λ (t : Schedule). t.key_room) c.self.view_is))

pub returns-in_ok-reserve_keys-clause-succeeds : goal.returns-in_ok-reserve_keys-clause-succeeds
returns-in_ok-reserve_keys-clause-succeeds c = λ enough. absurd (omega (arith, c.if-count-self.true, enough, ap (λ (t : Schedule). t.key_room) c.self.view_is))
