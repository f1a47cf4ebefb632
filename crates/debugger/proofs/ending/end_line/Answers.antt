use Rattle.std.proofs.Common.{◌∙◌, ℕ, ◌-◌, ap, ap₂, sym}
use Rattle.std.proofs.lemmas.Result.{IfOk-weaker}
use Rattle.rv_step.specs.declared.machine.Machine.{Machine}
use Rattle.debugger.proofs.MomentMoves.{ended_line}
use Rattle.debugger.proofs.ending.end_line.Goals as goal

pub returns : goal.returns
returns c =
    IfOk-weaker c.ending_line.result _ _
    (λ t h. h ∙ ended_line c.args.call.now c.args.store.now c.in_ok-run.run' c.in_ok-run.moment c.in-Ended.end _ _ _ c.in_ok-run.ensures
    (sym c.stage.ensures ∙ c.in-Ended.is) c.bytes.ensures.value
    (c.saturating_sub-gas.ensures ∙ ap₂ (λ (a b : ℕ). a - b) c.gas.ensures.value (c.left.ensures ∙ ap (λ (s : Machine). s.gas) c.machine.ensures)))
    c.ending_line.ensures
