use Rattle.std.proofs.Common.{◌∙◌, length, ap}
use Rattle.stm_state.specs.State.{start_state}
use Rattle.stm_core.proofs.MadeSteps.{start_is, start_reached}
use Rattle.stm_core.proofs.state.Core.of.Goals as goal

pub invariant_of-result : goal.invariant_of-result
invariant_of-result g c =
    start_reached (g.H.JobSource.job c.args.job) _ c.args.workers c.over-map.result c.in-Ok.scheduler (ap length c.calls.ensures.value) c.over-map.ensures.versions c.over-map.ensures.records c.in-Ok.ensures

pub returns-in-Ok-clause-state : goal.returns-in-Ok-clause-state
returns-in-Ok-clause-state g c =
    start_is _ c.args.workers c.over-map.result c.in-Ok.scheduler c.over-map.ensures.versions c.over-map.ensures.records c.in-Ok.ensures
    ∙ ap (λ calls. start_state (length calls) c.args.workers) c.calls.ensures.value
