use Rattle.std.proofs.Common.{◌∙◌, sym, ap, arith}
use Rattle.debugger.specs.Replay.{is_at_end}
use Rattle.debugger.proofs.Further.{further_earlier, further_gas, further_past, further_stands}
use Rattle.debugger.proofs.replay.Replay.go_further.Goals as goal

pub overflow_add-self : goal.overflow_add-self
overflow_add-self c =
    let going = ap is_at_end c.self.view_is ∙ sym c.is_at_end.ensures ∙ c.if-is_at_end.false in
    omega (arith, further_gas c.self.inside.call c.self.inside.store _ c.self.inside.run _ _ _ _ c.self.invariant.stands going c.in-Ok.ensures.ok c.self.invariant.earlier, c.self.invariant.gas)

pub invariant_of-self : goal.invariant_of-self
invariant_of-self c =
    let going = ap is_at_end c.self.view_is ∙ sym c.is_at_end.ensures ∙ c.if-is_at_end.false in
    record {
      gas = c.self.invariant.gas;
      stands = further_stands c.self.inside.call c.self.inside.store _ c.self.inside.run _ _ _ _ c.self.invariant.stands going c.in-Ok.ensures.ok;
      earlier = further_earlier c.self.inside.call c.self.inside.store _ c.self.inside.run _ _ _ _ c.self.invariant.stands going c.in-Ok.ensures.ok c.self.invariant.earlier;
    }

pub returns-in-Ok : goal.returns-in-Ok
returns-in-Ok c =
    let going = ap is_at_end c.self.view_is ∙ sym c.is_at_end.ensures ∙ c.if-is_at_end.false in
    let some = c.in-Ok.ensures.ok.some in
    let within = c.in-Ok.ensures.ok.within in
    rw (← c.self.view_is) (
      going,
      further_past c.self.inside.call c.self.inside.store _ c.self.inside.run _ _ _ _ c.self.invariant.stands going c.in-Ok.ensures.ok,
      omega (arith, some),
      omega (arith, within),
    )
