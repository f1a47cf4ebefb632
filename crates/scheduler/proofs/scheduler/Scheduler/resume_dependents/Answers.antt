use Rattle.std.proofs.Common.{◌≡◌, ℕ, Bool, false, arith, get_or, length, sym, ap, ◌∙◌}
use Rattle.std.proofs.lemmas.List.{length-map}
use Rattle.stm_state.specs.Steps.{resume_if_parked}
use Rattle.scheduler.specs.Schedule.{Schedule}
use Rattle.scheduler.proofs.Awaited.{awaited_resumed, none_parked, none_resumed}
use Rattle.scheduler.proofs.KeyRoom.{calls_resumed}
use Rattle.scheduler.proofs.scheduler.Scheduler.resume_dependents.Goals as goal

pub invariant_of-self : goal.invariant_of-self
invariant_of-self c =
    let all = ap length c.resume_parked.ensures.calls ∙ length-map c.self.inside.calls.items (resume_if_parked c.args.on) in
    let calls = ap (λ (t : Schedule). length t.calls) c.self.view_is in
    let within = c.requires.within in
    let limit = c.self.invariant.0 in
    let is = c.from.ensures in (
      omega (arith, all, limit),
      awaited_resumed c.args.on c.from.result c.self.inside.calls.items c.resume_parked.new.calls.items c.self.inside.awaited.items c.resume_parked.result is
          (omega (arith, is, within, calls)) c.resume_parked.ensures.calls c.self.invariant.1 c.resume_parked.ensures.named,
      calls_resumed c.self.inside.key_room c.self.inside.calls.items c.self.inside.workers.items c.self.invariant.2 c.args.on c.resume_parked.new.calls.items c.resume_parked.ensures.calls,
    )

pub returns-else-awaited : goal.returns-else-awaited
returns-else-awaited c =
    let awaited = c.self.inside.awaited.items in
    let down : get_or awaited c.args.on false ≡ false =
    ap (λ (n : ℕ). get_or awaited n false) (sym c.from.ensures) ∙ ap (λ (b : Bool). get_or awaited c.from.result b) (sym c.if-awaited.false) ∙ sym c.index_mut-awaited.ensures.value ∙ c.if-awaited.false in
    none_resumed c.args.on c.self.inside.calls.items c.self.inside.execution c.self.inside.validation c.self.inside.key_room c.self.inside.workers.items c.args.self.now c.self.view_is
    (none_parked c.args.on c.self.inside.calls.items awaited c.self.invariant.1 down)
