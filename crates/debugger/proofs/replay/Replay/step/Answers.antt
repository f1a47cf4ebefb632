use Rattle.std.proofs.Common.{◌≡◌, ◌∙◌, sym, ap, false, arith}
use Rattle.rv_step.specs.Moment.{is_over, moment_over}
use Rattle.debugger.specs.Replay.{is_at_end}
use Rattle.debugger.proofs.Moments.{within_gas}
use Rattle.debugger.proofs.ReplayMoments.{goes_on_more, stands_next}
use Rattle.debugger.proofs.replay.Replay.step.Goals as goal

pub overflow_add-self : goal.overflow_add-self
overflow_add-self c =
    let going : is_over (moment_over c.self.inside.call c.self.inside.store c.self.inside.moment) ≡ false = ap is_at_end c.self.view_is ∙ sym c.is_at_end.ensures ∙ c.if-is_at_end.false in
    let within = within_gas c.self.inside.call c.self.inside.store c.self.inside.moment going in
    omega (arith, within, c.self.invariant.gas)

pub invariant_of-self : goal.invariant_of-self
invariant_of-self c =
    let going : is_over (moment_over c.self.inside.call c.self.inside.store c.self.inside.moment) ≡ false = ap is_at_end c.self.view_is ∙ sym c.is_at_end.ensures ∙ c.if-is_at_end.false in
    record {
      gas = c.self.invariant.gas;
      stands = stands_next c.self.inside.call c.self.inside.store c.self.inside.moment c.self.inside.run c.step_run.new.run c.self.invariant.stands going c.in-Ok.ensures.ok;
      earlier = goes_on_more c.self.inside.call c.self.inside.store c.self.inside.moment c.self.invariant.earlier going;
    }
