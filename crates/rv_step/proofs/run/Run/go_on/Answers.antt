use Rattle.std.proofs.Common.{◌≡◌, ◌∙◌, ap, true, ℕ, refl, arith}
use Rattle.rv_step.specs.Run.{RunView, after_steps, is_running, run_after_result}
use Rattle.rv_step.specs.Step.{step}
use Rattle.rv_step.proofs.Walks.{one_goes, runs_on}
use Rattle.rv_step.proofs.run.Run.go_on.Goals as goal

pub returns-clause-ok : goal.returns-clause-ok
returns-clause-ok c =
    let running : is_running c.args.self.now.stage ≡ true = runs_on c.args.stop c.args.self.now (is_running c.args.self.now.stage) refl c.requires.going in
    let none : c.walk-made.result ≡ 0 = omega (arith, c.if-made-gt0.false) in
    let here : c.walk-made.new.self ≡ c.args.self.now = c.walk-made.ensures.steps ∙ ap (λ (n : ℕ). after_steps n c.args.self.now) none in
    one_goes c.args.stop c.args.most c.args.self.now c.step_one.new.self c.requires.some running
    (c.in_ok-step_one.ensures.ok ∙ ap (λ (r : RunView). run_after_result (step r.machine) r) here)
